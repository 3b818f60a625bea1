-- The sheets' addresses of the registers that the driver names.
use Rattle.std.specs.Prelude.{ℕ}
use Rattle.sheets.specs.declared.Variant.TheVariants.{Sx1272, Sx1276}
use Rattle.sheets.specs.Registers as sheet
use Rattle.params.specs.declared.radio_kind_params.Register.{Register}
use Rattle.params.specs.declared.radio_kind_params.Register.TheVariants.{RegFifo, RegOpMode, RegFrfMsb, RegFrfMid, RegFrfLsb, RegPaConfig, RegPaRamp, RegOcp, RegLna, RegFifoAddrPtr, RegFifoTxBaseAddr, RegFifoRxBaseAddr, RegFifoRxCurrentAddr, RegIrqFlagsMask, RegIrqFlags, RegRxNbBytes, RegPktSnrValue, RegPktRssiValue, RegModemConfig1, RegModemConfig2, RegSymbTimeoutLsb, RegPreambleMsb, RegPreambleLsb, RegPayloadLength, RegModemConfig3, RegDetectionOptimize, RegInvertiq, RegDetectionThreshold, RegSyncWord, RegInvertiq2, RegDioMapping1, RegPaDacSX1272, RegPaDacSX1276, RegTcxoSX1276, RegTcxoSX1272}

abbrev pub address : Register → ℕ
address RegFifo = sheet.reg_fifo
address RegOpMode = sheet.reg_op_mode
address RegFrfMsb = sheet.reg_frf_msb
address RegFrfMid = sheet.reg_frf_mid
address RegFrfLsb = sheet.reg_frf_lsb
address RegPaConfig = sheet.reg_pa_config
address RegPaRamp = sheet.reg_pa_ramp
address RegOcp = sheet.reg_ocp
address RegLna = sheet.reg_lna
address RegFifoAddrPtr = sheet.reg_fifo_addr_ptr
address RegFifoTxBaseAddr = sheet.reg_fifo_tx_base_addr
address RegFifoRxBaseAddr = sheet.reg_fifo_rx_base_addr
address RegFifoRxCurrentAddr = sheet.reg_fifo_rx_current_addr
address RegIrqFlagsMask = sheet.reg_irq_flags_mask
address RegIrqFlags = sheet.reg_irq_flags
address RegRxNbBytes = sheet.reg_rx_nb_bytes
address RegPktSnrValue = sheet.reg_pkt_snr_value
address RegPktRssiValue = sheet.reg_pkt_rssi_value
address RegModemConfig1 = sheet.reg_modem_config1
address RegModemConfig2 = sheet.reg_modem_config2
address RegSymbTimeoutLsb = sheet.reg_symb_timeout_lsb
address RegPreambleMsb = sheet.reg_preamble_msb
address RegPreambleLsb = sheet.reg_preamble_lsb
address RegPayloadLength = sheet.reg_payload_length
address RegModemConfig3 = sheet.reg_modem_config3
address RegDetectionOptimize = sheet.reg_detection_optimize
address RegInvertiq = sheet.reg_invertiq
address RegDetectionThreshold = sheet.reg_detection_threshold
address RegSyncWord = sheet.reg_sync_word
address RegInvertiq2 = sheet.reg_invertiq2
address RegDioMapping1 = sheet.reg_dio_mapping1
address RegPaDacSX1272 = sheet.reg_pa_dac Sx1272
address RegPaDacSX1276 = sheet.reg_pa_dac Sx1276
address RegTcxoSX1276 = sheet.reg_tcxo Sx1276
address RegTcxoSX1272 = sheet.reg_tcxo Sx1272
