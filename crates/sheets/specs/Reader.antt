-- The order in which the link reader looks at a board's registers: those that whole programming writes.
use Rattle.std.specs.Prelude.{Bool, true, false, List, [], ◌∷◌, ◌++◌, ℕ}
use Rattle.sheets.specs.declared.Variant.{Variant}
use Rattle.sheets.specs.declared.Variant.TheVariants.{Sx1272, Sx1276}
use Rattle.sheets.specs.Registers.{reg_frf_msb, reg_frf_mid, reg_frf_lsb, reg_pa_config, reg_pa_ramp, reg_ocp, reg_fifo_tx_base_addr, reg_fifo_rx_base_addr, reg_modem_config1, reg_modem_config2, reg_modem_config3, reg_preamble_msb, reg_preamble_lsb, reg_detection_optimize, reg_invertiq, reg_detection_threshold, reg_sync_word, reg_invertiq2, reg_pa_dac, reg_tcxo}

-- RegOcp and RegModemConfig3 are the SX1276's alone
abbrev pub always : Variant → List ℕ
always Sx1272 =
    reg_frf_msb ∷ reg_frf_mid ∷ reg_frf_lsb ∷ reg_pa_config ∷ reg_pa_ramp ∷ reg_fifo_tx_base_addr ∷ reg_fifo_rx_base_addr ∷ reg_modem_config1 ∷ reg_modem_config2
    ∷ reg_preamble_msb ∷ reg_preamble_lsb ∷ reg_detection_optimize ∷ reg_invertiq ∷ reg_detection_threshold ∷ reg_sync_word ∷ reg_invertiq2 ∷ reg_pa_dac Sx1272 ∷ []
always Sx1276 =
    reg_frf_msb ∷ reg_frf_mid ∷ reg_frf_lsb ∷ reg_pa_config ∷ reg_pa_ramp ∷ reg_ocp ∷ reg_fifo_tx_base_addr ∷ reg_fifo_rx_base_addr ∷ reg_modem_config1 ∷ reg_modem_config2
    ∷ reg_modem_config3 ∷ reg_preamble_msb ∷ reg_preamble_lsb ∷ reg_detection_optimize ∷ reg_invertiq ∷ reg_detection_threshold ∷ reg_sync_word ∷ reg_invertiq2
    ∷ reg_pa_dac Sx1276 ∷ []

-- the oscillator's register comes last, on a board that has one
abbrev pub reader_order : Variant → Bool → List ℕ
reader_order v true = always v ++ (reg_tcxo v ∷ [])
reader_order v false = always v
