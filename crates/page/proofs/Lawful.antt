-- The LoRa page of every board shows a page's laws.
-- Assumes nothing.
use mathlib.Core.Path.{◌≡◌, refl, sym, ap, ◌∙◌}
use mathlib.Core.Bool.{Bool, true, false}
use mathlib.Core.List.{List, [], ◌∷◌}
use Prim.Native.Nat.{ℕ, zero, suc, ◌+◌, ◌-◌, ◌*◌, ◌/◌, ◌%◌, ◌≤◌, ◌<◌}
use native.Mathlib.Omega.{arith}
use lib.Dec.{T}
use lib.Bits.{bit_and, and_comm, and_shifted}
use Rattle.sheets.specs.declared.Variant.{Variant}
use Rattle.sheets.specs.declared.Variant.TheVariants.{Sx1272, Sx1276}
use Rattle.sheets.specs.Frequency.{steps, lowest}
use Rattle.sheets.specs.Modem.{optimize, detection_optimize, detection_threshold, invert_iq, invert_iq2, sync_word}
use Rattle.sheets.specs.Power.{pa_config}
use Rattle.sheets.proofs.Sweep.{equal, equal₂}
use Rattle.sheets.proofs.Frequency.{steps_lowest, lowest_lt, steps_fit}
use Rattle.sheets.proofs.Modem.{optimize_le, optimize_again, code_76, code_72}
use Rattle.params.specs.declared.mod_params.Link.{Link}
use Rattle.params.specs.declared.board.Board.{Board}
use Rattle.page.specs.Page.{Place, Lawful, Learns, Agree, Clear, apart, canonical, told}
use Rattle.page.specs.Links.{link, accepted, plain}
use Rattle.page.specs.Lora as L
use Rattle.page.specs.Lora.{is, flag_of, places, blank, page_of, page}
use Rattle.page.proofs.Acceptance.{Ranges, ranges, accepts, ◌▸◌}
use Rattle.page.proofs.Power as power

-- ---- frequency

same_bytes : (n m : ℕ) → n < 16777216 → m < 16777216 → n / 256 / 256 % 256 ≡ m / 256 / 256 % 256 → n / 256 % 256 ≡ m / 256 % 256 → n % 256 ≡ m % 256 → n ≡ m
same_bytes n m g h a b c = omega arith

-- 400 MHz is the lowest frequency of its step
same_band : (m a b : ℕ) → m ≤ 1 → steps a ≡ steps b → m * 400000000 ≤ a → m * 400000000 ≤ b
unfolding steps
same_band zero a b h e l = omega arith
same_band (suc m) a b h e l = let z : m ≡ 0 = omega arith in rw z (omega (arith, rw z at l))

-- ---- flags and tables

pub iq_shown : (f : ℕ) → f ≤ 1 → is (invert_iq 1) (invert_iq f) ≡ f
unfolding is
iq_shown f h = equal 0 2 (λ x. is (invert_iq 1) (invert_iq x)) (λ x. x) tt f (omega arith) (omega arith)

pub sync_shown : (f : ℕ) → f ≤ 1 → is (sync_word 1) (sync_word f) ≡ f
unfolding is
sync_shown f h = equal 0 2 (λ x. is (sync_word 1) (sync_word x)) (λ x. x) tt f (omega arith) (omega arith)

detect_lt : (sf : ℕ) → sf ≤ 12 → detection_optimize sf < 8
detect_lt sf h = omega (arith, equal 0 13 (λ k. detection_optimize k / 8) (λ k. 0) tt sf (omega arith) (omega arith))

threshold_lt : (sf : ℕ) → sf ≤ 12 → detection_threshold sf < 256
threshold_lt sf h = omega (arith, equal 0 13 (λ k. detection_threshold k / 256) (λ k. 0) tt sf (omega arith) (omega arith))

flag_bytes : (f : ℕ) → f ≤ 1 → (invert_iq f < 256) × (invert_iq2 f < 256) × (sync_word f < 256)
flag_bytes zero h = omega arith
flag_bytes (suc zero) h = omega arith
flag_bytes (suc (suc f)) h = absurd (omega arith)

-- ---- the places

own_places : (v : Variant) (boost tcxo : Bool) → T (apart (places v boost tcxo))
own_places Sx1272 boost true = tt
own_places Sx1272 boost false = tt
own_places Sx1276 boost true = tt
own_places Sx1276 boost false = tt

starts : (v : Variant) → T (accepted v blank)
starts Sx1272 = accepts Sx1272 blank (omega arith)
starts Sx1276 = accepts Sx1276 blank (omega arith)

sf_clear_76 : (sf crc : ℕ) → sf ≤ 12 → crc ≤ 1 → bit_and 0x0b (sf * 16 + crc * 4) ≡ 0
sf_clear_76 sf crc h c = equal₂ 13 2 (λ x y. bit_and 0x0b (x * 16 + y * 4)) (λ x y. 0) tt sf crc (omega arith) (omega arith)

sf_clear_72 : (sf : ℕ) → bit_and 0x0f (sf * 16) ≡ 0
sf_clear_72 sf = and_comm 0x0f (sf * 16) ∙ and_shifted sf 4 0x0f (omega arith)

flag_clear : (o : ℕ) → o ≤ 1 → bit_and 0xf3 (o * 8) ≡ 0
flag_clear o h = equal 0 2 (λ x. bit_and 0xf3 (x * 8)) (λ x. 0) tt o (omega arith) (omega arith)

detect_clear : (sf : ℕ) → sf ≤ 12 → bit_and 0x78 (detection_optimize sf) ≡ 0
detect_clear sf h = equal 0 13 (λ x. bit_and 0x78 (detection_optimize x)) (λ x. 0) tt sf (omega arith) (omega arith)

-- a place that is written whole is clear where its bits are a byte
written_whole : (n : ℕ) → n < 256 → (bit_and 0 n ≡ 0) × (0 + n < 256)
written_whole n h = (refl, omega arith)

clear_tail : (v : Variant) (tcxo : Bool) (l : Link) → Clear (L.oscillator v tcxo) l
clear_tail v false l = tt
clear_tail v true l = omega arith

clear : (v : Variant) (boost tcxo : Bool) (l : Link) → Ranges v l → Clear (places v boost tcxo) l
clear Sx1276 boost tcxo l h =
    let o = optimize_le l.spreading_factor l.bandwidth in
    let iq = flag_bytes l.iq_inverted h.iq in
    omega arith ▸ omega arith ▸ omega arith
    ▸ written_whole _ (power.config_lt Sx1276 boost l.power) ▸ omega arith ▸ written_whole _ (power.ocp_lt boost l.power)
    ▸ omega arith ▸ omega arith
    ▸ written_whole _ (rw (code_76 l.bandwidth h.bw_to) (omega arith))
    ▸ (sf_clear_76 l.spreading_factor l.crc_on h.sf_to h.crc, omega arith)
    ▸ (flag_clear (flag_of l) o, omega arith)
    ▸ omega arith ▸ omega arith
    ▸ (detect_clear l.spreading_factor h.sf_to, omega (arith, detect_lt l.spreading_factor h.sf_to))
    ▸ written_whole _ iq.0 ▸ written_whole _ (threshold_lt l.spreading_factor h.sf_to)
    ▸ written_whole _ (flag_bytes l.public_network h.public).2 ▸ written_whole _ iq.1
    ▸ written_whole _ (power.dac_lt Sx1276 boost l.power) ▸ clear_tail Sx1276 tcxo l
clear Sx1272 boost tcxo l h =
    let o = optimize_le l.spreading_factor l.bandwidth in
    let iq = flag_bytes l.iq_inverted h.iq in
    omega arith ▸ omega arith ▸ omega arith
    ▸ written_whole _ (power.config_lt Sx1272 boost l.power) ▸ omega arith
    ▸ omega arith ▸ omega arith
    ▸ written_whole _ (rw (code_72 l.bandwidth h.bw_from h.bw_to) (omega arith))
    ▸ (sf_clear_72 l.spreading_factor, omega arith)
    ▸ omega arith ▸ omega arith
    ▸ (detect_clear l.spreading_factor h.sf_to, omega (arith, detect_lt l.spreading_factor h.sf_to))
    ▸ written_whole _ iq.0 ▸ written_whole _ (threshold_lt l.spreading_factor h.sf_to)
    ▸ written_whole _ (flag_bytes l.public_network h.public).2 ▸ written_whole _ iq.1
    ▸ written_whole _ (power.dac_lt Sx1272 boost l.power) ▸ clear_tail Sx1272 tcxo l

-- ---- the reader learns

-- a step, over the ranges that acceptance is
abbrev StepIn : Variant → List (Place Link) → Place Link → Type 0
StepIn v done p = (s t : Link) → Ranges v s → Ranges v t → Agree done t s
    → (p.mask t ≡ p.mask s) × Ranges v (p.learn (p.bits s) t) × Agree (p ∷ done) (p.learn (p.bits s) t) s

abbrev LearnsIn : Variant → List (Place Link) → List (Place Link) → Type 0
LearnsIn v done [] = Unit {0}
LearnsIn v done (p ∷ ps) = StepIn v done p × LearnsIn v (p ∷ done) ps

by_ranges : (v : Variant) (boost tcxo : Bool) (done ps : List (Place Link)) → LearnsIn v done ps → Learns (page_of v boost tcxo) done ps
by_ranges v boost tcxo done [] l = tt
by_ranges v boost tcxo done (p ∷ ps) (step, l) = (
  (λ s t hs ht a. let (m, r, b) = step s t (ranges v s hs) (ranges v t ht) a in (m, accepts v (p.learn (p.bits s) t) r, b)),
  by_ranges v boost tcxo (p ∷ done) ps l,
)

tuned_ok : (v : Variant) (n : ℕ) (t : Link) → Ranges v t → n < 16777216 → Ranges v (L.tuned n t)
tuned_ok Sx1272 n t h l = omega (arith, lowest_lt n l)
tuned_ok Sx1276 n t h l = omega (arith, lowest_lt n l)

-- the SX1272's first modem register, taken apart
unpacked : (b c i r o : ℕ) → b ≤ 2 → c ≤ 4 → i ≤ 1 → r ≤ 1 → o ≤ 1 → let v = b * 64 + c * 8 + i * 4 + r * 2 + o in
    (v / 64 % 4 ≡ b) × (v / 8 % 8 ≡ c) × (v / 4 % 2 ≡ i) × (v / 2 % 2 ≡ r) × (v / 1 % 2 ≡ o)
unpacked b c i r o hb hc hi hr ho = omega arith

module _ (v : Variant) where
  learns_06 : StepIn v [] L.frf_msb_place
  learns_06 s t hs ht a = let n = steps_fit s.frequency.0 hs.hz in (refl, tuned_ok v _ t ht (omega arith), simp steps_lowest (omega arith))

  learns_07 : StepIn v (L.frf_msb_place ∷ []) L.frf_mid_place
  learns_07 s t hs ht a = let n = steps_fit s.frequency.0 hs.hz in (refl, tuned_ok v _ t ht (omega arith), simp steps_lowest (omega arith))

  learns_08 : StepIn v (L.frf_mid_place ∷ L.frf_msb_place ∷ []) L.frf_lsb_place
  learns_08 s t hs ht a = let n = steps_fit s.frequency.0 hs.hz in (refl, tuned_ok v _ t ht (omega arith), simp steps_lowest (omega arith))

  learns_tail : (done : List (Place Link)) (w : Variant) (x : Bool) → LearnsIn v done (L.oscillator w x)
  learns_tail done w false = tt
  learns_tail done w true = (λ s t hs ht a. (refl, ht, (refl, a))) ▸ tt

abbrev before_1d_76 : Bool → List (Place Link)
before_1d_76 boost = L.rx_base_place ∷ L.tx_base_place ∷ L.ocp_trim_place boost ∷ L.pa_ramp_place Sx1276 ∷ L.pa_config_place Sx1276 boost ∷ L.frf_lsb_place ∷ L.frf_mid_place ∷ L.frf_msb_place ∷ []

abbrev before_1d_72 : Bool → List (Place Link)
before_1d_72 boost = L.rx_base_place ∷ L.tx_base_place ∷ L.pa_ramp_place Sx1272 ∷ L.pa_config_place Sx1272 boost ∷ L.frf_lsb_place ∷ L.frf_mid_place ∷ L.frf_msb_place ∷ []

module _ (boost : Bool) where
  learns_1d_76 : StepIn Sx1276 (before_1d_76 boost) (L.config_1_place Sx1276)
  learns_1d_76 s t hs ht a =
      let n = steps_fit s.frequency.0 hs.hz in
      let m = steps_fit t.frequency.0 ht.hz in
      let e : steps s.frequency.0 ≡ steps t.frequency.0 = sym (search same_bytes) in
      let band = same_band (s.bandwidth / 8) s.frequency.0 t.frequency.0 (omega arith) e hs.band in
      let v = s.bandwidth * 16 + s.coding_rate * 2 + s.implicit_header in
      let bw : v / 16 % 16 ≡ s.bandwidth = omega arith in
      rw (code_76 s.bandwidth hs.bw_to) (rw (bw, code_76 s.bandwidth hs.bw_to) (omega arith))

  -- the optimize flag tells of the spreading factor before RegModemConfig2 does
  learns_1d_72 : StepIn Sx1272 (before_1d_72 boost) (L.config_1_place Sx1272)
  learns_1d_72 s t hs ht a =
      let n = steps_fit s.frequency.0 hs.hz in
      let m = steps_fit t.frequency.0 ht.hz in
      let e : steps s.frequency.0 ≡ steps t.frequency.0 = sym (search same_bytes) in
      let band = same_band (s.bandwidth / 8) s.frequency.0 t.frequency.0 (omega arith) e hs.band in
      let code = code_72 s.bandwidth hs.bw_from hs.bw_to in
      let o = flag_of s in
      let o-le = optimize_le s.spreading_factor s.bandwidth in
      let d = unpacked (s.bandwidth - 7) s.coding_rate s.implicit_header s.crc_on o (omega arith) hs.cr_to hs.implicit hs.crc o-le in
      let bw : s.bandwidth - 7 + 7 ≡ s.bandwidth = omega arith in
      let same = optimize_again s.spreading_factor s.bandwidth hs.sf_to hs.bw_from hs.bw_to in
      rw code (rw (d.0, d.1, d.2, d.3, d.4, bw, code, same) (omega arith))

  learns_1e_72 : StepIn Sx1272 (L.config_1_place Sx1272 ∷ before_1d_72 boost) (L.config_2_place Sx1272)
  learns_1e_72 s t hs ht a =
      let o = optimize_le s.spreading_factor s.bandwidth in
      let o' = optimize_le t.spreading_factor t.bandwidth in
      let code = code_72 s.bandwidth hs.bw_from hs.bw_to in
      let code' = code_72 t.bandwidth ht.bw_from ht.bw_to in
      let sf : s.spreading_factor * 16 / 16 % 16 ≡ s.spreading_factor = omega arith in
      let bw : t.bandwidth ≡ s.bandwidth = omega arith in
      let same : optimize (s.spreading_factor * 16 / 16 % 16) t.bandwidth ≡ optimize s.spreading_factor s.bandwidth = cc in
      omega arith

-- in the order of the places: 06 07 08, 09, 0a, (0b,) 0e, 0f, 1d, 1e, (26,) 20, 21, 31, 33, 37, 39, 3b, 4d or 5a
learns : (v : Variant) (boost tcxo : Bool) → LearnsIn v [] (places v boost tcxo)
learns Sx1276 boost tcxo =
    learns_06 Sx1276
    ▸ learns_07 Sx1276
    ▸ learns_08 Sx1276
    ▸ (λ s t hs ht a. omega (arith, power.config_shown Sx1276 boost s.power))
    ▸ omega arith
    ▸ (λ s t hs ht a. (refl, ht, (power.ocp_shown boost s.power t.power a.1.0, a)))
    ▸ omega arith
    ▸ omega arith
    ▸ learns_1d_76 boost
    ▸ omega arith
    ▸ (λ s t hs ht a.
    let sf : t.spreading_factor ≡ s.spreading_factor = omega arith in
    let bw : t.bandwidth ≡ s.bandwidth = omega (arith, code_76 t.bandwidth ht.bw_to, code_76 s.bandwidth hs.bw_to) in
    (refl, ht, (cc, a)))
    ▸ omega arith
    ▸ omega arith
    ▸ (λ s t hs ht a. let sf : t.spreading_factor ≡ s.spreading_factor = omega arith in (refl, ht, (cc, a)))
    ▸ (λ s t hs ht a. let iq = iq_shown s.iq_inverted hs.iq in (refl, omega arith, (cc, a)))
    ▸ (λ s t hs ht a. let sf : t.spreading_factor ≡ s.spreading_factor = omega arith in (refl, ht, (cc, a)))
    ▸ (λ s t hs ht a. let sync = sync_shown s.public_network hs.public in (refl, omega arith, (cc, a)))
    ▸ (λ s t hs ht a. (refl, ht, (cc (iq_shown s.iq_inverted hs.iq, iq_shown t.iq_inverted ht.iq), a)))
    ▸ (λ s t hs ht a.
    let same : pa_config Sx1276 boost t.power ≡ pa_config Sx1276 boost s.power = search depth 1 in
    (refl, ht, (power.dac_shown boost s.power t.power same, a)))
    ▸ learns_tail Sx1276 _ Sx1276 tcxo
learns Sx1272 boost tcxo =
    learns_06 Sx1272
    ▸ learns_07 Sx1272
    ▸ learns_08 Sx1272
    ▸ (λ s t hs ht a. omega (arith, power.config_shown Sx1272 boost s.power))
    ▸ omega arith
    ▸ omega arith
    ▸ omega arith
    ▸ learns_1d_72 boost
    ▸ learns_1e_72 boost
    ▸ omega arith
    ▸ omega arith
    ▸ (λ s t hs ht a. let sf : t.spreading_factor ≡ s.spreading_factor = omega arith in (refl, ht, (cc, a)))
    ▸ (λ s t hs ht a. let iq = iq_shown s.iq_inverted hs.iq in (refl, omega arith, (cc, a)))
    ▸ (λ s t hs ht a. let sf : t.spreading_factor ≡ s.spreading_factor = omega arith in (refl, ht, (cc, a)))
    ▸ (λ s t hs ht a. let sync = sync_shown s.public_network hs.public in (refl, omega arith, (cc, a)))
    ▸ (λ s t hs ht a. (refl, ht, (cc (iq_shown s.iq_inverted hs.iq, iq_shown t.iq_inverted ht.iq), a)))
    ▸ (λ s t hs ht a.
    let same : pa_config Sx1272 boost t.power ≡ pa_config Sx1272 boost s.power = search depth 1 in
    omega (arith, power.config_told Sx1272 boost s.power t.power same, power.dac_told Sx1272 boost s.power t.power same))
    ▸ learns_tail Sx1272 _ Sx1272 tcxo

pub lawful : (b : Board) → Lawful (page b)
lawful b =
    let v = b.variant in
    record {
      own_places = own_places v b.tx_boost b.tcxo_used;
      clear = λ l h. clear v b.tx_boost b.tcxo_used l (ranges v l h);
      starts = starts v;
      learns = by_ranges v b.tx_boost b.tcxo_used [] (places v b.tx_boost b.tcxo_used) (learns v b.tx_boost b.tcxo_used);
    }

-- ---- the guess from a whole page

pub same_link : (a b : Link) → a.public_network ≡ b.public_network → a.spreading_factor ≡ b.spreading_factor → a.bandwidth ≡ b.bandwidth
    → a.coding_rate ≡ b.coding_rate → a.frequency.0 ≡ b.frequency.0 → a.preamble_length ≡ b.preamble_length
    → a.implicit_header ≡ b.implicit_header → a.crc_on ≡ b.crc_on → a.iq_inverted ≡ b.iq_inverted → a.power ≡ b.power → a ≡ b
same_link a b public sf bw cr hz preamble implicit crc iq power =
    λ i. link (public i) (sf i) (bw i) (cr i) (hz i) (preamble i) (implicit i) (crc i) (iq i) (power i)

told_tail : (v : Variant) (tcxo : Bool) (s t : Link) → told (L.oscillator v tcxo) s t ≡ t
told_tail v false s t = refl
told_tail v true s t = refl

-- the canonical link is the plain one
plainly : (v : Variant) (boost tcxo : Bool) (s : Link) → Ranges v s → canonical (page_of v boost tcxo) s ≡ plain v boost s
plainly Sx1276 boost tcxo s h =
    let n = steps_fit s.frequency.0 h.hz in
    let code = code_76 s.bandwidth h.bw_to in
    told_tail Sx1276 tcxo s _
    ∙ same_link _ (plain Sx1276 boost s) (sync_shown s.public_network h.public) (omega arith) (omega arith) (omega arith)
    (simp steps_lowest (ap lowest (omega arith))) (omega arith) (omega arith) (omega arith) (iq_shown s.iq_inverted h.iq)
    (power.alone boost s.power)
plainly Sx1272 boost tcxo s h =
    let n = steps_fit s.frequency.0 h.hz in
    let code = code_72 s.bandwidth h.bw_from h.bw_to in
    let o = optimize_le s.spreading_factor s.bandwidth in
    told_tail Sx1272 tcxo s _
    ∙ same_link _ (plain Sx1272 boost s) (sync_shown s.public_network h.public) (omega arith) (omega arith) (omega arith)
    (simp steps_lowest (ap lowest (omega arith))) (omega arith) (omega arith) (omega arith) (iq_shown s.iq_inverted h.iq)
    (rw (power.config_shown Sx1272 boost s.power) (power.clamped_shown Sx1272 boost s.power))

pub canonical_plain : (b : Board) (s : Link) → T (accepted b.variant s) → canonical (page b) s ≡ plain b.variant b.tx_boost s
canonical_plain b s h = plainly b.variant b.tx_boost b.tcxo_used s (ranges b.variant s h)
