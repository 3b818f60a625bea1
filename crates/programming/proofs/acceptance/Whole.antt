-- The two parts of a link's refusal are the whole of it, and what a clear one says of the records that it becomes.
-- Assumes nothing.
use Rattle.std.specs.Prelude.{Ok, Err}
use mathlib.Core.Path.{◌≡◌, refl, sym, ◌∙◌}
use Prim.Native.Nat.{ℕ, ◌<◌}
use native.Mathlib.Omega.{arith}
use lib.Dec.{T, ltb, lt→ltb}
use Rattle.sheets.specs.declared.Variant.{Variant}
use Rattle.sheets.specs.Modem.{optimize}
use Rattle.sheets.proofs.Modem.{optimize_le}
use Rattle.sheets.proofs.Sweep.{joined}
use Rattle.params.specs.declared.mod_params.Link.{Link}
use Rattle.params.specs.Errors.{Verdict, or}
use Rattle.refusals.specs.Refusals.{flag, link_refusal}
use Rattle.refusals.proofs.Clear.{both_clear, named_if}
use Rattle.operations.specs.Modem.{modulation_named, modulation_had, packet_named}
use Rattle.page.specs.Links.{clear, accepted}
use Rattle.page.proofs.Acceptance.{accepted_clear}
use Rattle.programming.specs.Parts.{link_named, link_had}

or_assoc : (a b c : Verdict) → or (or a b) c ≡ or a (or b c)
or_assoc (Ok tt) b c = refl
or_assoc (Err e) b c = refl

or_clear : (a : Verdict) → or a (Ok tt) ≡ a
or_clear (Ok tt) = refl
or_clear (Err e) = refl

pub whole : (v : Variant) (l : Link) → link_refusal v l ≡ or (link_named l) (link_had v l)
unfolding link_refusal
whole v l = simp (or_assoc, or_clear)

-- a link of a board that nothing refuses is accepted
pub clear_accepted : (v : Variant) (l : Link) → link_refusal v l ≡ (Ok tt) → l.preamble_length < 65536 → T (accepted v l)
unfolding accepted
clear_accepted v l e h = joined (clear (link_refusal v l)) (ltb l.preamble_length 65536) (rw e tt) (lt→ltb l.preamble_length 65536 h)

-- the records that an accepted link becomes are refused by nothing
module _ (v : Variant) (l : Link) (h : T (accepted v l)) where
  abbrev sf : ℕ
  sf = l.spreading_factor

  abbrev modulation : Verdict
  modulation = modulation_named sf l.bandwidth l.coding_rate

  abbrev packet : Verdict
  packet = packet_named l.implicit_header l.crc_on l.iq_inverted

  parts : (link_named l ≡ (Ok tt)) × (link_had v l ≡ (Ok tt))
  parts = both_clear (link_named l) (link_had v l) (sym (whole v l) ∙ accepted_clear v l h)

  named : (modulation ≡ (Ok tt)) × (packet ≡ (Ok tt))
  named = both_clear modulation packet (both_clear (flag l.public_network) (or modulation packet) parts.0).1

  had : modulation_had v sf l.bandwidth ≡ (Ok tt)
  had = (both_clear (modulation_had v sf l.bandwidth) _ parts.1).0

  pub packet_clear : packet ≡ (Ok tt)
  packet_clear = named.1

  pub modulation_clear : (flagged : ℕ) → flagged ≡ optimize sf l.bandwidth → or modulation (or (flag flagged) (modulation_had v sf l.bandwidth)) ≡ (Ok tt)
  modulation_clear flagged e = rw (named.0, had, named_if 0 1 flagged (omega arith) (omega (arith, optimize_le sf l.bandwidth)))
