-- The sheets' flags of the names that the driver uses.
use Rattle.std.specs.Prelude.{ℕ}
use Rattle.sheets.specs.Bits.{Field, mask}
use Rattle.sheets.specs.Registers as sheet
use Rattle.params.specs.declared.irq_masks.IrqMask.{IrqMask}
use Rattle.params.specs.declared.irq_masks.IrqMask.TheVariants.{CADActivityDetected, CADDone, TxDone, HeaderValid, RxDone, RxTimeout}

abbrev pub flag_of : IrqMask → Field
flag_of CADActivityDetected = sheet.cad_detected
flag_of CADDone = sheet.cad_done
flag_of TxDone = sheet.tx_done
flag_of HeaderValid = sheet.valid_header
flag_of RxDone = sheet.rx_done
flag_of RxTimeout = sheet.rx_timeout

abbrev pub flag_mask : IrqMask → ℕ
flag_mask m = mask (flag_of m)
