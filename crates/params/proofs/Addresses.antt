-- Every register lies in the image.
-- Assumes nothing.
use Prim.Native.Nat.{◌<◌}
use lib.Dec.{lit<}
use Rattle.params.specs.declared.radio_kind_params.Register.{Register}
use Rattle.params.specs.declared.radio_kind_params.Register.TheVariants.{RegFifo, RegOpMode, RegFrfMsb, RegFrfMid, RegFrfLsb, RegPaConfig, RegPaRamp, RegOcp, RegLna, RegFifoAddrPtr, RegFifoTxBaseAddr, RegFifoRxBaseAddr, RegFifoRxCurrentAddr, RegIrqFlagsMask, RegIrqFlags, RegRxNbBytes, RegPktSnrValue, RegPktRssiValue, RegModemConfig1, RegModemConfig2, RegSymbTimeoutLsb, RegPreambleMsb, RegPreambleLsb, RegPayloadLength, RegModemConfig3, RegDetectionOptimize, RegInvertiq, RegDetectionThreshold, RegSyncWord, RegInvertiq2, RegDioMapping1, RegPaDacSX1272, RegPaDacSX1276, RegTcxoSX1276, RegTcxoSX1272}
use Rattle.params.specs.Addresses.{address}

pub address_lt : (r : Register) → address r < 128
address_lt RegFifo = lit< tt
address_lt RegOpMode = lit< tt
address_lt RegFrfMsb = lit< tt
address_lt RegFrfMid = lit< tt
address_lt RegFrfLsb = lit< tt
address_lt RegPaConfig = lit< tt
address_lt RegPaRamp = lit< tt
address_lt RegOcp = lit< tt
address_lt RegLna = lit< tt
address_lt RegFifoAddrPtr = lit< tt
address_lt RegFifoTxBaseAddr = lit< tt
address_lt RegFifoRxBaseAddr = lit< tt
address_lt RegFifoRxCurrentAddr = lit< tt
address_lt RegIrqFlagsMask = lit< tt
address_lt RegIrqFlags = lit< tt
address_lt RegRxNbBytes = lit< tt
address_lt RegPktSnrValue = lit< tt
address_lt RegPktRssiValue = lit< tt
address_lt RegModemConfig1 = lit< tt
address_lt RegModemConfig2 = lit< tt
address_lt RegSymbTimeoutLsb = lit< tt
address_lt RegPreambleMsb = lit< tt
address_lt RegPreambleLsb = lit< tt
address_lt RegPayloadLength = lit< tt
address_lt RegModemConfig3 = lit< tt
address_lt RegDetectionOptimize = lit< tt
address_lt RegInvertiq = lit< tt
address_lt RegDetectionThreshold = lit< tt
address_lt RegSyncWord = lit< tt
address_lt RegInvertiq2 = lit< tt
address_lt RegDioMapping1 = lit< tt
address_lt RegPaDacSX1272 = lit< tt
address_lt RegPaDacSX1276 = lit< tt
address_lt RegTcxoSX1276 = lit< tt
address_lt RegTcxoSX1272 = lit< tt
