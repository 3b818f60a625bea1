-- What acceptance says of a link's numbers: `omega` can read it so.
-- Assumes nothing.
use Rattle.std.specs.Prelude.{Ok, Err}
use mathlib.Core.Path.{◌≡◌, refl, sym, subst}
use mathlib.Core.Logic.{◌↔◌}
use mathlib.Core.Bool.{Bool, true, false, not, ◌&&◌}
use mathlib.Core.List.{List, [], ◌∷◌}
use Prim.Native.Nat.{ℕ, ◌+◌, ◌*◌, ◌/◌, ◌≤◌, ◌<◌}
use native.Mathlib.Omega.{arith}
use borrow.Author.Tests.{leb-true, leb-false, ltb-true, ltb-false, eqb-true, eqb-false}
use lib.Dec.{T, eqb, leb, ltb, leb→le, le→leb, ltb→lt, lt→ltb}
use Rattle.sheets.specs.declared.Variant.{Variant}
use Rattle.sheets.specs.declared.Variant.TheVariants.{Sx1272, Sx1276}
use Rattle.sheets.specs.Modem.{bandwidth_codes, has_bandwidth}
use Rattle.sheets.proofs.Sweep.{both, joined, alike}
use Rattle.params.specs.declared.mod_params.Link.{Link}
use Rattle.params.specs.declared.mod_params.RadioError.{RadioError}
use Rattle.params.specs.declared.mod_params.RadioError.TheVariants.{InvalidConfiguration, UnavailableSpreadingFactor, UnavailableBandwidth, InvalidBandwidthForFrequency, InvalidSF6ExplicitHeaderRequest, FrequencyOutOfRange}
use Rattle.refusals.specs.Refusals.{unless, named, first, link_verdicts, link_refusal}
use Rattle.page.specs.Links.{clear, accepted}
use Rattle.params.specs.Errors.{Verdict}

-- ---- a row of verdicts is clear exactly when each is

abbrev Each : List Verdict → Type 0
Each [] = Unit {0}
Each (v ∷ vs) = T (clear v) × Each vs

each : (vs : List Verdict) → T (clear (first vs)) ↔ Each vs
each [] = ((λ t. tt), (λ e. tt))
each ((Ok tt) ∷ vs) = let (forth, back) = each vs in ((λ t. (tt, forth t)), (λ e. back e.1))
each (Err e ∷ vs) = ((λ t. absurd t), (λ h. h.0))

granted : (b : Bool) (e : RadioError) → T (clear (unless b e)) ↔ T b
granted true e = ((λ t. tt), (λ t. tt))
granted false e = ((λ t. t), (λ t. t))

-- a pair, so that a row of them needs no brackets
infixr 20 ◌▸◌
abbrev pub ◌▸◌ : {A B : Type 0} → A → B → A × B
a ▸ b = (a, b)

-- ---- single verdicts

in_range : (low high code : ℕ) → T (clear (named low high code)) ↔ ((low ≤ code) × (code ≤ high))
in_range low high code = (
  (λ t. let p = both (leb low code) (leb code high) ((granted (leb low code && leb code high) InvalidConfiguration).0 t) in (leb→le low code p.0, leb→le code high p.1)),
  (λ (l, h). (granted (leb low code && leb code high) InvalidConfiguration).1 (joined (leb low code) (leb code high) (le→leb low code l) (le→leb code high h))),
)

-- the bandwidth that a variant has first
abbrev pub narrowest : Variant → ℕ
narrowest Sx1272 = 7
narrowest Sx1276 = 0

had : (v : Variant) (bw : ℕ) → bw ≤ 9 → has_bandwidth v bw ≡ leb (narrowest v) bw
unfolding bandwidth_codes
had Sx1272 bw h = alike 0 10 (has_bandwidth Sx1272) (leb 7) tt bw (omega arith) (omega arith)
had Sx1276 bw h = alike 0 10 (has_bandwidth Sx1276) (leb 0) tt bw (omega arith) (omega arith)

-- not SF5
six_on : (sf : ℕ) → 5 ≤ sf → (b : Bool) → eqb sf 5 ≡ b → T (not b) ↔ (6 ≤ sf)
six_on sf h true e = ((λ t. absurd t), (λ l. absurd (let z = eqb-true sf 5 e in omega arith)))
six_on sf h false e = ((λ t. let z = eqb-false sf 5 e in omega arith), (λ l. tt))

-- 250 and 500 kHz want 400 MHz
in_band : (bw hz : ℕ) → bw ≤ 9 → (a b c : Bool) → leb 8 bw ≡ a → leb bw 9 ≡ b → ltb hz 400000000 ≡ c
    → T (not (a && (b && c))) ↔ (bw / 8 * 400000000 ≤ hz)
in_band bw hz h false b c p q r = ((λ t. let z = leb-false 8 bw p in omega arith), (λ l. tt))
in_band bw hz h true false c p q r = absurd (let z = leb-false bw 9 q in omega arith)
in_band bw hz h true true false p q r = ((λ t. let z = ltb-false hz 400000000 r in omega arith), (λ l. tt))
in_band bw hz h true true true p q r =
    ((λ t. absurd t), (λ l. absurd (let y = leb-true 8 bw p in let z = ltb-true hz 400000000 r in omega arith)))

-- SF6 wants the implicit header
headed : (sf implicit : ℕ) → 6 ≤ sf → (a b : Bool) → eqb sf 6 ≡ a → eqb implicit 0 ≡ b → T (not (a && b)) ↔ (7 ≤ sf + implicit)
headed sf implicit h false b p q = ((λ t. let z = eqb-false sf 6 p in omega arith), (λ l. tt))
headed sf implicit h true false p q = ((λ t. let z = eqb-false implicit 0 q in omega arith), (λ l. tt))
headed sf implicit h true true p q =
    ((λ t. absurd t), (λ l. absurd (let y = eqb-true sf 6 p in let z = eqb-true implicit 0 q in omega arith)))

-- ---- links

pub record Ranges (v : Variant) (l : Link) : Type 0 where
  pub public : l.public_network ≤ 1
  pub sf_from : 6 ≤ l.spreading_factor
  pub sf_to : l.spreading_factor ≤ 12
  pub bw_from : narrowest v ≤ l.bandwidth
  pub bw_to : l.bandwidth ≤ 9
  pub cr_from : 1 ≤ l.coding_rate
  pub cr_to : l.coding_rate ≤ 4
  pub implicit : l.implicit_header ≤ 1
  pub crc : l.crc_on ≤ 1
  pub iq : l.iq_inverted ≤ 1
  pub band : l.bandwidth / 8 * 400000000 ≤ l.frequency.0
  pub header : 7 ≤ l.spreading_factor + l.implicit_header
  pub hz : l.frequency.0 < 1024000000
  pub preamble : l.preamble_length < 65536

module _ (v : Variant) (l : Link) where
  abbrev sf : ℕ
  sf = l.spreading_factor

  abbrev bw : ℕ
  bw = l.bandwidth

  abbrev band_test : Bool
  band_test = not (leb 8 bw && (leb bw 9 && ltb l.frequency.0 400000000))

  abbrev header_test : Bool
  header_test = not (eqb sf 6 && eqb l.implicit_header 0)

  pub ranges : T (accepted v l) → Ranges v l
  unfolding accepted link_refusal
  ranges t =
      let p = both (clear (link_refusal v l)) (ltb l.preamble_length 65536) t in
      let (public, (sf-is, (bw-is, (cr-is, (implicit, (crc, (iq, (sf-value, (bw-value, (band, (header, (hz, end)))))))))))) = (each (link_verdicts v l)).0 p.0 in
      let (sf-named, sf_to) = (in_range 5 12 sf).0 sf-is in
      let bw_to = ((in_range 0 9 bw).0 bw-is).1 in
      let (cr_from, cr_to) = (in_range 1 4 l.coding_rate).0 cr-is in
      let sf_from = (six_on sf sf-named (eqb sf 5) refl).0 ((granted (not (eqb sf 5)) UnavailableSpreadingFactor).0 sf-value) in
      let bw-had = subst T (had v bw bw_to) ((granted (has_bandwidth v bw) UnavailableBandwidth).0 bw-value) in
      record {
        public = ((in_range 0 1 l.public_network).0 public).1;
        sf_from = sf_from;
        sf_to = sf_to;
        bw_from = leb→le (narrowest v) bw bw-had;
        bw_to = bw_to;
        cr_from = cr_from;
        cr_to = cr_to;
        implicit = ((in_range 0 1 l.implicit_header).0 implicit).1;
        crc = ((in_range 0 1 l.crc_on).0 crc).1;
        iq = ((in_range 0 1 l.iq_inverted).0 iq).1;
        band = (in_band bw l.frequency.0 bw_to (leb 8 bw) (leb bw 9) (ltb l.frequency.0 400000000) refl refl refl).0 ((granted band_test InvalidBandwidthForFrequency).0 band);
        header = (headed sf l.implicit_header sf_from (eqb sf 6) (eqb l.implicit_header 0) refl refl).0 ((granted header_test InvalidSF6ExplicitHeaderRequest).0 header);
        hz = ltb→lt l.frequency.0 1024000000 ((granted (ltb l.frequency.0 1024000000) FrequencyOutOfRange).0 hz);
        preamble = ltb→lt l.preamble_length 65536 p.1;
      }

  pub accepts : Ranges v l → T (accepted v l)
  unfolding accepted link_refusal
  accepts h =
      joined (clear (link_refusal v l)) (ltb l.preamble_length 65536)
      ((each (link_verdicts v l)).1
      ((in_range 0 1 l.public_network).1 (omega arith)
      ▸ (in_range 5 12 sf).1 (omega arith)
      ▸ (in_range 0 9 bw).1 (omega arith)
      ▸ (in_range 1 4 l.coding_rate).1 (omega arith)
      ▸ (in_range 0 1 l.implicit_header).1 (omega arith)
      ▸ (in_range 0 1 l.crc_on).1 (omega arith)
      ▸ (in_range 0 1 l.iq_inverted).1 (omega arith)
      ▸ (granted (not (eqb sf 5)) UnavailableSpreadingFactor).1 ((six_on sf (omega arith) (eqb sf 5) refl).1 h.sf_from)
      ▸ (granted (has_bandwidth v bw) UnavailableBandwidth).1 (subst T (sym (had v bw h.bw_to)) (le→leb (narrowest v) bw h.bw_from))
      ▸ (granted band_test InvalidBandwidthForFrequency).1
      ((in_band bw l.frequency.0 h.bw_to (leb 8 bw) (leb bw 9) (ltb l.frequency.0 400000000) refl refl refl).1 h.band)
      ▸ (granted header_test InvalidSF6ExplicitHeaderRequest).1
      ((headed sf l.implicit_header h.sf_from (eqb sf 6) (eqb l.implicit_header 0) refl refl).1 h.header)
      ▸ (granted (ltb l.frequency.0 1024000000) FrequencyOutOfRange).1 (lt→ltb l.frequency.0 1024000000 h.hz)
      ▸ tt))
      (lt→ltb l.preamble_length 65536 h.preamble)

-- nothing refuses an accepted link
pub accepted_clear : (v : Variant) (l : Link) → T (accepted v l) → link_refusal v l ≡ (Ok tt)
unfolding accepted
accepted_clear v l h = by (link_refusal v l) (both (clear (link_refusal v l)) (ltb l.preamble_length 65536) h).0
  where
    by : (w : Verdict) → T (clear w) → w ≡ (Ok tt)
    by (Ok tt) t = refl
    by (Err e) t = absurd t
