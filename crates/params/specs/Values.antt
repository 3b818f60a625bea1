-- The sheets' values of the names that the driver uses.
use Rattle.std.specs.Prelude.{ℕ}
use Rattle.sheets.specs.Receive.{op_mode}
use Rattle.params.specs.declared.values.LoRaMode.{LoRaMode}
use Rattle.params.specs.declared.values.LoRaMode.TheVariants.{Sleep, Standby, Tx, RxContinuous, RxSingle, Cad}
use Rattle.params.specs.declared.values.RampTime.{RampTime}
use Rattle.params.specs.declared.values.RampTime.TheVariants.{Ramp250Us, Ramp40Us}

abbrev pub lora_mode : LoRaMode → ℕ
lora_mode Sleep = op_mode 0
lora_mode Standby = op_mode 1
lora_mode Tx = op_mode 3
lora_mode RxContinuous = op_mode 5
lora_mode RxSingle = op_mode 6
lora_mode Cad = op_mode 7

-- RegPaRamp's code for the time
abbrev pub ramp_code : RampTime → ℕ
ramp_code Ramp250Us = 4
ramp_code Ramp40Us = 9
