-- When two links are one.
use Rattle.std.specs.Prelude.{◌≡◌}
use Rattle.sheets.specs.Frequency.{steps}
use Rattle.sheets.specs.Power.{clamped}
use Rattle.params.specs.declared.mod_params.Link.{Link}
use Rattle.params.specs.declared.board.Board.{Board}

-- One link: the same but for the frequency within a step and the power beyond the clamp.
pub record OneLink (b : Board) (s t : Link) : Type 0 where
  pub sync_word : s.public_network ≡ t.public_network
  pub spreading_factor : s.spreading_factor ≡ t.spreading_factor
  pub bandwidth : s.bandwidth ≡ t.bandwidth
  pub coding_rate : s.coding_rate ≡ t.coding_rate
  pub header : s.implicit_header ≡ t.implicit_header
  pub crc : s.crc_on ≡ t.crc_on
  pub iq : s.iq_inverted ≡ t.iq_inverted
  pub preamble : s.preamble_length ≡ t.preamble_length
  pub frequency_step : steps s.frequency.0 ≡ steps t.frequency.0
  pub power : clamped b.variant b.tx_boost s.power ≡ clamped b.variant b.tx_boost t.power
