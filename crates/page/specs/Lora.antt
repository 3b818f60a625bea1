-- The LoRa page of a board: its registers in the reader's order, each with the bits of a link and what the reader learns from them.
use Rattle.std.specs.Prelude.{Bool, true, false, cond, List, [], ◌∷◌, ℕ, ◌+◌, ◌-◌, ◌*◌, ◌/◌, ◌%◌, eqb, ltb, ℤ, pos, ◌-ℤ◌}
use Rattle.sheets.specs.declared.Variant.{Variant}
use Rattle.sheets.specs.declared.Variant.TheVariants.{Sx1272, Sx1276}
use Rattle.sheets.specs.Bits.{mask, others, at, get}
use Rattle.sheets.specs.Registers as R
use Rattle.sheets.specs.Frequency.{steps, frf_msb, frf_mid, frf_lsb, frf, lowest}
use Rattle.sheets.specs.Modem.{bandwidth_code, optimize, detection_keeps, detection_optimize, detection_threshold, invert_iq, invert_iq2, sync_word}
use Rattle.sheets.specs.Power.{pa_config, pa_dac, ocp, pa_ramp}
use Rattle.sheets.specs.Signal.{signed}
use Rattle.params.specs.declared.mod_params.Link.{Link}
use Rattle.params.specs.declared.board.Board.{Board}
use Rattle.page.specs.Page.{Place, Page}
use Rattle.page.specs.Links.{link, accepted}

-- a byte that is written whole and tells the reader nothing new
abbrev pub known : ℕ → (Link → ℕ) → Place Link
known a f = record { addr = a; mask = λ l. 0; bits = f; learn = λ v t. t }

-- one that tells it something
abbrev pub whole : ℕ → (Link → ℕ) → (ℕ → Link → Link) → Place Link
whole a f g = record { addr = a; mask = λ l. 0; bits = f; learn = g }

-- 1 where v is a, else 0
unfoldable pub is : ℕ → ℕ → ℕ
is a v = cond (eqb v a) 1 0

-- ---- frequency

-- the guess at a count of steps; at 125 kHz every frequency is accepted
abbrev pub tuned : ℕ → Link → Link
tuned n t =
    link t.public_network t.spreading_factor 7 t.coding_rate (lowest n) t.preamble_length t.implicit_header t.crc_on
    t.iq_inverted t.power

abbrev pub frf_msb_place : Place Link
frf_msb_place = whole R.reg_frf_msb (λ l. frf_msb (steps l.frequency.0)) (λ v t. tuned (frf v 0 0) t)

abbrev pub frf_mid_place : Place Link
frf_mid_place = whole R.reg_frf_mid (λ l. frf_mid (steps l.frequency.0)) (λ v t. tuned (frf (frf_msb (steps t.frequency.0)) v 0) t)

abbrev pub frf_lsb_place : Place Link
frf_lsb_place =
    whole R.reg_frf_lsb (λ l. frf_lsb (steps l.frequency.0))
    (λ v t. tuned (frf (frf_msb (steps t.frequency.0)) (frf_mid (steps t.frequency.0)) v) t)

-- ---- power

-- The power that RegPaConfig shows: on the boosted SX1276 in five bits, since the Rust spills into the one above OutputPower;
-- below 0 dBm as a negative byte. The boosted SX1272 shows the one of two that is at most 17 dBm.
unfoldable pub shown : Variant → Bool → ℕ → ℤ
shown Sx1276 true x = pos (x % 32 + 2)
shown Sx1276 false x = cond (ltb x 0xfc) (pos (get R.output_power x)) (signed x)
shown Sx1272 true x = pos (get R.output_power x + 2)
shown Sx1272 false x = pos (get R.output_power x) -ℤ pos 1

-- and the one that it shows together with RegPaDac, whose +20 dBm setting puts 3 dB on top
unfoldable pub shown_with : Variant → Bool → ℕ → ℕ → ℤ
shown_with Sx1276 boost x d = shown Sx1276 boost x
shown_with Sx1272 true x d = pos (get R.output_power x + cond (eqb (get (R.pa_dac Sx1272) d) 7) 5 2)
shown_with Sx1272 false x d = shown Sx1272 false x

abbrev pub powered : ℤ → Link → Link
powered p t =
    link t.public_network t.spreading_factor t.bandwidth t.coding_rate t.frequency.0 t.preamble_length t.implicit_header
    t.crc_on t.iq_inverted p

abbrev pub pa_config_place : Variant → Bool → Place Link
pa_config_place v boost = whole R.reg_pa_config (λ l. pa_config v boost l.power) (λ x t. powered (shown v boost x) t)

-- 250 µs
abbrev pub pa_ramp_place : Variant → Place Link
pa_ramp_place v = known R.reg_pa_ramp (λ l. pa_ramp v 4)

abbrev pub ocp_trim_place : Bool → Place Link
ocp_trim_place boost = known R.reg_ocp (λ l. ocp boost l.power)

-- only the SX1272's tells something new
abbrev pub pa_dac_place : Variant → Bool → Place Link
pa_dac_place Sx1276 boost = known (R.reg_pa_dac Sx1276) (λ l. pa_dac Sx1276 boost l.power)
pa_dac_place Sx1272 boost =
    whole (R.reg_pa_dac Sx1272) (λ l. pa_dac Sx1272 boost l.power) (λ d t. powered (shown_with Sx1272 boost (pa_config Sx1272 boost t.power) d) t)

-- ---- the FIFO's bases

abbrev pub tx_base_place : Place Link
tx_base_place = known R.reg_fifo_tx_base_addr (λ l. 0)

abbrev pub rx_base_place : Place Link
rx_base_place = known R.reg_fifo_rx_base_addr (λ l. 0)

-- ---- the modem

-- the guess of what the modem's registers hold
abbrev pub shaped : (sf bw cr implicit crc : ℕ) → Link → Link
shaped sf bw cr implicit crc t =
    link t.public_network sf bw cr t.frequency.0 t.preamble_length implicit crc t.iq_inverted t.power

-- the bandwidth of a code in RegModemConfig1
abbrev pub bandwidth_of : Variant → ℕ → ℕ
bandwidth_of Sx1272 code = code + 7
bandwidth_of Sx1276 code = code

abbrev pub flag_of : Link → ℕ
flag_of l = optimize l.spreading_factor l.bandwidth

-- The SX1272's optimize flag tells of the spreading factor before RegModemConfig2 does: with 12 it is set at every bandwidth
-- that may set it, with 7 at none.
abbrev pub config_1_place : Variant → Place Link
config_1_place Sx1276 =
    whole R.reg_modem_config1
    (λ l. at (R.bw Sx1276) (bandwidth_code Sx1276 l.bandwidth) + at (R.coding_rate Sx1276) l.coding_rate + at (R.implicit_header_mode_on Sx1276) l.implicit_header)
    (λ v t. shaped 7 (bandwidth_of Sx1276 (get (R.bw Sx1276) v)) (get (R.coding_rate Sx1276) v) (get (R.implicit_header_mode_on Sx1276) v) t.crc_on t)
config_1_place Sx1272 =
    whole R.reg_modem_config1
    (λ l. at (R.bw Sx1272) (bandwidth_code Sx1272 l.bandwidth) + at (R.coding_rate Sx1272) l.coding_rate
    + at (R.implicit_header_mode_on Sx1272) l.implicit_header + at (R.rx_payload_crc_on Sx1272) l.crc_on + at (R.low_data_rate_optimize Sx1272) (flag_of l))
    (λ v t. shaped (7 + get (R.low_data_rate_optimize Sx1272) v * 5) (bandwidth_of Sx1272 (get (R.bw Sx1272) v)) (get (R.coding_rate Sx1272) v)
    (get (R.implicit_header_mode_on Sx1272) v) (get (R.rx_payload_crc_on Sx1272) v) t)

abbrev pub config_2_place : Variant → Place Link
config_2_place Sx1276 = record {
  addr = R.reg_modem_config2;
  mask = λ l. 255 - (mask R.spreading_factor + mask (R.rx_payload_crc_on Sx1276));
  bits = λ l. at R.spreading_factor l.spreading_factor + at (R.rx_payload_crc_on Sx1276) l.crc_on;
  learn = λ v t. shaped (get R.spreading_factor v) t.bandwidth t.coding_rate t.implicit_header (get (R.rx_payload_crc_on Sx1276) v) t;
}
config_2_place Sx1272 = record {
  addr = R.reg_modem_config2;
  mask = λ l. others R.spreading_factor;
  bits = λ l. at R.spreading_factor l.spreading_factor;
  learn = λ v t. shaped (get R.spreading_factor v) t.bandwidth t.coding_rate t.implicit_header t.crc_on t;
}

abbrev pub config_3_place : Place Link
config_3_place = record {
  addr = R.reg_modem_config3;
  mask = λ l. 255 - (mask (R.low_data_rate_optimize Sx1276) + mask (R.agc_auto_on Sx1276));
  bits = λ l. at (R.low_data_rate_optimize Sx1276) (flag_of l);
  learn = λ v t. t;
}

-- ---- packets

abbrev pub announced : ℕ → Link → Link
announced n t =
    link t.public_network t.spreading_factor t.bandwidth t.coding_rate t.frequency.0 n t.implicit_header t.crc_on
    t.iq_inverted t.power

abbrev pub preamble_msb_place : Place Link
preamble_msb_place = whole R.reg_preamble_msb (λ l. l.preamble_length / 256) (λ v t. announced (v * 256) t)

abbrev pub preamble_lsb_place : Place Link
preamble_lsb_place = whole R.reg_preamble_lsb (λ l. l.preamble_length % 256) (λ v t. announced (t.preamble_length / 256 * 256 + v) t)

abbrev pub detect_optimize_place : Place Link
detect_optimize_place = record { addr = R.reg_detection_optimize; mask = λ l. detection_keeps; bits = λ l. detection_optimize l.spreading_factor; learn = λ v t. t }

abbrev pub detect_threshold_place : Place Link
detect_threshold_place = known R.reg_detection_threshold (λ l. detection_threshold l.spreading_factor)

abbrev pub invert_iq_place : Place Link
invert_iq_place =
    whole R.reg_invertiq (λ l. invert_iq l.iq_inverted)
    (λ v t. link t.public_network t.spreading_factor t.bandwidth t.coding_rate t.frequency.0 t.preamble_length
    t.implicit_header t.crc_on (is (invert_iq 1) v) t.power)

abbrev pub invert_iq2_place : Place Link
invert_iq2_place = known R.reg_invertiq2 (λ l. invert_iq2 l.iq_inverted)

abbrev pub sync_word_place : Place Link
sync_word_place =
    whole R.reg_sync_word (λ l. sync_word l.public_network)
    (λ v t. link (is (sync_word 1) v) t.spreading_factor t.bandwidth t.coding_rate t.frequency.0 t.preamble_length
    t.implicit_header t.crc_on t.iq_inverted t.power)

-- ---- the page

abbrev pub oscillator : Variant → Bool → List (Place Link)
oscillator v true = known (R.reg_tcxo v) (λ l. at (R.tcxo_input_on v) 1) ∷ []
oscillator v false = []

abbrev pub places : Variant → Bool → Bool → List (Place Link)
places Sx1276 boost tcxo =
    frf_msb_place ∷ frf_mid_place ∷ frf_lsb_place ∷ pa_config_place Sx1276 boost ∷ pa_ramp_place Sx1276 ∷ ocp_trim_place boost ∷ tx_base_place ∷ rx_base_place ∷ config_1_place Sx1276 ∷ config_2_place Sx1276
    ∷ config_3_place ∷ preamble_msb_place ∷ preamble_lsb_place ∷ detect_optimize_place ∷ invert_iq_place ∷ detect_threshold_place ∷ sync_word_place ∷ invert_iq2_place
    ∷ pa_dac_place Sx1276 boost ∷ oscillator Sx1276 tcxo
places Sx1272 boost tcxo =
    frf_msb_place ∷ frf_mid_place ∷ frf_lsb_place ∷ pa_config_place Sx1272 boost ∷ pa_ramp_place Sx1272 ∷ tx_base_place ∷ rx_base_place ∷ config_1_place Sx1272 ∷ config_2_place Sx1272
    ∷ preamble_msb_place ∷ preamble_lsb_place ∷ detect_optimize_place ∷ invert_iq_place ∷ detect_threshold_place ∷ sync_word_place ∷ invert_iq2_place
    ∷ pa_dac_place Sx1272 boost ∷ oscillator Sx1272 tcxo

-- the reader's first guess
abbrev pub blank : Link
blank = link 0 7 7 1 0 0 0 0 0 (pos 0)

abbrev pub page_of : Variant → Bool → Bool → Page
page_of v boost tcxo = record { Setting = Link; accepted = accepted v; places = places v boost tcxo; blank = blank }

abbrev pub page : Board → Page
page b = page_of b.variant b.tx_boost b.tcxo_used

abbrev pub places_of : Board → List (Place Link)
places_of b = places b.variant b.tx_boost b.tcxo_used
