-- Interrupts (sheets: RegIrqFlagsMask, RegIrqFlags, RegDioMapping1): which are let through, which pins tell them, and what they mean.
use Rattle.std.specs.Prelude.{Bool, cond, ℕ, ◌+◌, ◌-◌, eqb}
use Rattle.std.specs.Int.Bits.{bit_and}
use Rattle.sheets.specs.Bits.{Field, mask, others, at, get}
use Rattle.sheets.specs.Registers.{rx_timeout, rx_done, payload_crc_error, valid_header, tx_done, cad_done, cad_detected, dio0_mapping, dio3_mapping}

-- what the radio is doing when an interrupt comes
pub data Activity : Type 0 where
  transmitting receiving detecting other : Activity

-- ---- set up

-- RegIrqFlagsMask: a 1 shuts an interrupt out
abbrev pub shut_out : Activity → ℕ
shut_out transmitting = 255 - mask tx_done
shut_out receiving = 255 - (mask rx_done + mask rx_timeout + mask payload_crc_error + mask valid_header)
shut_out detecting = 255 - (mask cad_done + mask cad_detected)
shut_out other = 255

-- RegDioMapping1: DIO0 tells RxDone (0), TxDone (1) or CadDone (2), and ValidHeader is told by DIO3 (1); the Rust's 3 for any
-- other activity tells nothing
abbrev pub mapping_keeps : Activity → ℕ
mapping_keeps receiving = 255 - (mask dio0_mapping + mask dio3_mapping)
mapping_keeps transmitting = others dio0_mapping
mapping_keeps detecting = others dio0_mapping
mapping_keeps other = others dio0_mapping

abbrev pub mapping : Activity → ℕ
mapping transmitting = at dio0_mapping 1
mapping receiving = at dio0_mapping 0 + at dio3_mapping 1
mapping detecting = at dio0_mapping 2
mapping other = at dio0_mapping 3

-- what is written to RegIrqFlags afterwards: the Rust's 0 clears nothing
abbrev pub clearing : Activity → ℕ
clearing transmitting = 0
clearing receiving = 0
clearing detecting = 0
clearing other = 255

-- a write v to RegIrqFlags clears the flags that are 1 in v
abbrev pub cleared : ℕ → ℕ → ℕ
cleared v flags = bit_and (255 - v) flags

-- ---- outcome

pub data Event : Type 0 where
  nothing preamble_received done timed_out : Event
  channel_checked : Bool → Event

abbrev pub raised : Field → ℕ → Bool
raised f flags = eqb (get f flags) 1

-- the first of these flags that is raised decides
abbrev pub event : Activity → ℕ → Event
event transmitting flags = cond (raised tx_done flags) done nothing
event receiving flags = cond (raised rx_done flags) done (cond (raised rx_timeout flags) timed_out (cond (raised valid_header flags) preamble_received nothing))
event detecting flags = cond (raised cad_done flags) (channel_checked (raised cad_detected flags)) nothing
event other flags = nothing
