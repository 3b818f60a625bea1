-- The registers that the driver touches in LoRa mode and their fields, by the register tables of the SX1272 and SX1276 data sheets.
-- Where the sheets differ, a field or an address is a function of the variant.
use Rattle.std.specs.Prelude.{ℕ}
use Rattle.sheets.specs.declared.Variant.{Variant}
use Rattle.sheets.specs.declared.Variant.TheVariants.{Sx1272, Sx1276}
use Rattle.sheets.specs.Bits.{Field, bits, bit}

-- ---- 00 RegFifo: the FIFO's data port

abbrev pub reg_fifo : ℕ
reg_fifo = 0x00

-- ---- 01 RegOpMode

abbrev pub reg_op_mode : ℕ
reg_op_mode = 0x01

abbrev pub long_range_mode : Field
long_range_mode = bit reg_op_mode 7

abbrev pub access_shared_reg : Field
access_shared_reg = bit reg_op_mode 6

-- 0 sleep, 1 standby, 3 TX, 5 RX continuous, 6 RX single, 7 CAD
abbrev pub mode : Field
mode = bits reg_op_mode 2 0

-- ---- 06 07 08 RegFrf: 24 bits, high byte first; a new frequency takes effect when 08 is written

abbrev pub reg_frf_msb : ℕ
reg_frf_msb = 0x06

abbrev pub reg_frf_mid : ℕ
reg_frf_mid = 0x07

abbrev pub reg_frf_lsb : ℕ
reg_frf_lsb = 0x08

-- ---- 09 RegPaConfig

abbrev pub reg_pa_config : ℕ
reg_pa_config = 0x09

-- 0 RFO, 1 PA_BOOST
abbrev pub pa_select : Field
pa_select = bit reg_pa_config 7

-- SX1276 alone; unused on the SX1272
abbrev pub max_power : Field
max_power = bits reg_pa_config 6 4

abbrev pub output_power : Field
output_power = bits reg_pa_config 3 0

-- ---- 0a RegPaRamp

abbrev pub reg_pa_ramp : ℕ
reg_pa_ramp = 0x0a

-- SX1272 LowPnTxPllOff; reserved on the SX1276
abbrev pub low_pn_tx_pll_off : Field
low_pn_tx_pll_off = bit reg_pa_ramp 4

-- 4: 250 µs, 9: 40 µs
abbrev pub pa_ramp : Field
pa_ramp = bits reg_pa_ramp 3 0

-- ---- 0b RegOcp, written on the SX1276 alone

abbrev pub reg_ocp : ℕ
reg_ocp = 0x0b

abbrev pub ocp_on : Field
ocp_on = bit reg_ocp 5

-- 0x0b: 100 mA, 0x1b: 240 mA
abbrev pub ocp_trim : Field
ocp_trim = bits reg_ocp 4 0

-- ---- 0c RegLna

abbrev pub reg_lna : ℕ
reg_lna = 0x0c

-- 1: the highest gain
abbrev pub lna_gain : Field
lna_gain = bits reg_lna 7 5

-- 3: boost on
abbrev pub lna_boost : Field
lna_boost = bits reg_lna 1 0

-- ---- 0d 0e 0f 10: where the FIFO goes on, its bases, and where the last packet received starts

abbrev pub reg_fifo_addr_ptr : ℕ
reg_fifo_addr_ptr = 0x0d

abbrev pub reg_fifo_tx_base_addr : ℕ
reg_fifo_tx_base_addr = 0x0e

abbrev pub reg_fifo_rx_base_addr : ℕ
reg_fifo_rx_base_addr = 0x0f

abbrev pub reg_fifo_rx_current_addr : ℕ
reg_fifo_rx_current_addr = 0x10

-- ---- 11 RegIrqFlagsMask and 12 RegIrqFlags, whose bits are the same; a 1 written to 12 clears the flag

abbrev pub reg_irq_flags_mask : ℕ
reg_irq_flags_mask = 0x11

abbrev pub reg_irq_flags : ℕ
reg_irq_flags = 0x12

abbrev pub rx_timeout : Field
rx_timeout = bit reg_irq_flags 7

abbrev pub rx_done : Field
rx_done = bit reg_irq_flags 6

abbrev pub payload_crc_error : Field
payload_crc_error = bit reg_irq_flags 5

abbrev pub valid_header : Field
valid_header = bit reg_irq_flags 4

abbrev pub tx_done : Field
tx_done = bit reg_irq_flags 3

abbrev pub cad_done : Field
cad_done = bit reg_irq_flags 2

abbrev pub cad_detected : Field
cad_detected = bit reg_irq_flags 0

-- ---- 13 RegRxNbBytes: bytes of the last packet received

abbrev pub reg_rx_nb_bytes : ℕ
reg_rx_nb_bytes = 0x13

-- ---- 19 RegPktSnrValue (two's complement, quarter dB) and 1a RegPktRssiValue

abbrev pub reg_pkt_snr_value : ℕ
reg_pkt_snr_value = 0x19

abbrev pub reg_pkt_rssi_value : ℕ
reg_pkt_rssi_value = 0x1a

-- ---- 1d RegModemConfig1, 1e RegModemConfig2, 26 RegModemConfig3 (SX1276 alone: another register on the SX1272)

abbrev pub reg_modem_config1 : ℕ
reg_modem_config1 = 0x1d

abbrev pub reg_modem_config2 : ℕ
reg_modem_config2 = 0x1e

abbrev pub reg_modem_config3 : ℕ
reg_modem_config3 = 0x26

abbrev pub bw : Variant → Field
bw Sx1272 = bits reg_modem_config1 7 6
bw Sx1276 = bits reg_modem_config1 7 4

-- 1: 4/5, 2: 4/6, 3: 4/7, 4: 4/8
abbrev pub coding_rate : Variant → Field
coding_rate Sx1272 = bits reg_modem_config1 5 3
coding_rate Sx1276 = bits reg_modem_config1 3 1

abbrev pub implicit_header_mode_on : Variant → Field
implicit_header_mode_on Sx1272 = bit reg_modem_config1 2
implicit_header_mode_on Sx1276 = bit reg_modem_config1 0

abbrev pub rx_payload_crc_on : Variant → Field
rx_payload_crc_on Sx1272 = bit reg_modem_config1 1
rx_payload_crc_on Sx1276 = bit reg_modem_config2 2

abbrev pub low_data_rate_optimize : Variant → Field
low_data_rate_optimize Sx1272 = bit reg_modem_config1 0
low_data_rate_optimize Sx1276 = bit reg_modem_config3 3

abbrev pub agc_auto_on : Variant → Field
agc_auto_on Sx1272 = bit reg_modem_config2 2
agc_auto_on Sx1276 = bit reg_modem_config3 2

abbrev pub spreading_factor : Field
spreading_factor = bits reg_modem_config2 7 4

abbrev pub tx_continuous_mode : Field
tx_continuous_mode = bit reg_modem_config2 3

-- ---- the receive window: its two high bits, and 1f RegSymbTimeoutLsb

abbrev pub symb_timeout_msb : Field
symb_timeout_msb = bits reg_modem_config2 1 0

abbrev pub reg_symb_timeout_lsb : ℕ
reg_symb_timeout_lsb = 0x1f

-- ---- 20 21 preamble length in symbols, 22 payload length

abbrev pub reg_preamble_msb : ℕ
reg_preamble_msb = 0x20

abbrev pub reg_preamble_lsb : ℕ
reg_preamble_lsb = 0x21

abbrev pub reg_payload_length : ℕ
reg_payload_length = 0x22

-- ---- 31 RegDetectOptimize and 37 RegDetectionThreshold

abbrev pub reg_detection_optimize : ℕ
reg_detection_optimize = 0x31

-- 3 for SF7 to SF12, 5 for SF6
abbrev pub detection_optimize : Field
detection_optimize = bits reg_detection_optimize 2 0

abbrev pub detection_reserved : Field
detection_reserved = bits reg_detection_optimize 6 3

abbrev pub reg_detection_threshold : ℕ
reg_detection_threshold = 0x37

-- ---- 33 RegInvertIQ and 3b RegInvertIQ2

abbrev pub reg_invertiq : ℕ
reg_invertiq = 0x33

abbrev pub invert_iq_rx : Field
invert_iq_rx = bit reg_invertiq 6

abbrev pub invert_iq_reserved : Field
invert_iq_reserved = bits reg_invertiq 5 1

abbrev pub invert_iq_tx : Field
invert_iq_tx = bit reg_invertiq 0

abbrev pub reg_invertiq2 : ℕ
reg_invertiq2 = 0x3b

-- ---- 39 RegSyncWord

abbrev pub reg_sync_word : ℕ
reg_sync_word = 0x39

-- ---- 40 RegDioMapping1

abbrev pub reg_dio_mapping1 : ℕ
reg_dio_mapping1 = 0x40

-- 0 RxDone, 1 TxDone, 2 CadDone
abbrev pub dio0_mapping : Field
dio0_mapping = bits reg_dio_mapping1 7 6

-- 1 ValidHeader
abbrev pub dio3_mapping : Field
dio3_mapping = bits reg_dio_mapping1 1 0

-- ---- RegTcxo (4b, on the SX1272 58) and RegPaDac (4d, on the SX1272 5a)

abbrev pub reg_tcxo : Variant → ℕ
reg_tcxo Sx1272 = 0x58
reg_tcxo Sx1276 = 0x4b

abbrev pub tcxo_input_on : Variant → Field
tcxo_input_on v = bit (reg_tcxo v) 4

abbrev pub reg_pa_dac : Variant → ℕ
reg_pa_dac Sx1272 = 0x5a
reg_pa_dac Sx1276 = 0x4d

-- 0x10
abbrev pub pa_dac_reserved : Variant → Field
pa_dac_reserved v = bits (reg_pa_dac v) 7 3

-- 4: default, 7: +20 dBm on PA_BOOST
abbrev pub pa_dac : Variant → Field
pa_dac v = bits (reg_pa_dac v) 2 0
