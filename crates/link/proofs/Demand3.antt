-- Demand 3, for both variants and every board: one link, one image.
-- The hypotheses are that an image has 128 bytes and that links are accepted. Assumes nothing.
use mathlib.Core.Path.{◌≡◌, refl, sym, ap, ◌∙◌}
use mathlib.Core.Logic.{◌↔◌}
use mathlib.Core.List.{List}
use Prim.Native.Nat.{ℕ}
use native.Mathlib.Omega.{arith}
use borrow.Author.Tests.{eq-eqb}
use lib.ListN.{length}
use Rattle.sheets.specs.Frequency.{steps, lowest}
use Rattle.sheets.proofs.Frequency.{steps_lowest}
use Rattle.params.specs.declared.mod_params.Link.{Link}
use Rattle.params.specs.declared.mod_params.RadioError.TheVariants.{NotALink}
use Rattle.params.specs.Errors.{Told, told, refusal}
use Rattle.params.specs.Answers.{link_values}
use Rattle.params.specs.declared.board.Board.{Board}
use Rattle.page.specs.Page.{Image, Reading, Reading.found, Reading.not_a_setting, program, read}
use Rattle.page.proofs.Demand3 as general
use Rattle.page.specs.Links.{Accepted, plain}
use Rattle.page.specs.Lora.{page}
use Rattle.page.specs.Reading.{tells_reading, tells_if, read_link}
use Rattle.page.proofs.Lawful.{lawful, canonical_plain, same_link}
use Rattle.page.proofs.Sequence.{whole_programming}
use Rattle.link.specs.Programmed.{programmed}
use Rattle.link.specs.OneLink.{OneLink}

module _ (b : Board) where
  abbrev plainly : Link → Link
  plainly = plain b.variant b.tx_boost

  -- ---- links whose plain forms are equal are one

  one→plain : (s t : Link) → OneLink b s t → plainly s ≡ plainly t
  one→plain s t o =
      same_link _ _ o.sync_word o.spreading_factor o.bandwidth o.coding_rate (ap lowest o.frequency_step) o.preamble o.header o.crc o.iq o.power

  plain→one : (s t : Link) → plainly s ≡ plainly t → OneLink b s t
  plain→one s t e = record {
    sync_word = ap (λ (l : Link). l.public_network) e;
    spreading_factor = ap (λ (l : Link). l.spreading_factor) e;
    bandwidth = ap (λ (l : Link). l.bandwidth) e;
    coding_rate = ap (λ (l : Link). l.coding_rate) e;
    header = ap (λ (l : Link). l.implicit_header) e;
    crc = ap (λ (l : Link). l.crc_on) e;
    iq = ap (λ (l : Link). l.iq_inverted) e;
    preamble = ap (λ (l : Link). l.preamble_length) e;
    frequency_step = sym (steps_lowest (steps s.frequency.0)) ∙ ap (λ (l : Link). steps l.frequency.0) e ∙ steps_lowest (steps t.frequency.0);
    power = ap (λ (l : Link). l.power) e;
  }

  -- ---- the reader's answer, and what its page reads

  reads : (im : List ℕ) → Image im → read_link b im ≡ tells_reading (read (page b) im)
  reads im I = ap (λ x. tells_if x (read (page b) im)) (eq-eqb (length im) 128 I.size)

  refusal_is : (r : Reading Link) → (tells_reading r ≡ refusal NotALink) ↔ (r ≡ not_a_setting)
  refusal_is not_a_setting = ((λ e. refl), (λ e. refl))
  refusal_is (found l) = ((λ e. absurd (let z : ◌≡◌ {A = ℕ} 0 27 = ap (λ (t : Told). t.number) e in omega arith)), (λ e. absurd (let z : ◌≡◌ {A = ℕ} 0 1 = cc in omega arith)))

  -- ---- the four statements

  -- 1. Two accepted links leave equal images from one start exactly when they are one link.
  pub equal_images_exactly_for_one_link : (s t : Link) (start : List ℕ) → Accepted b s → Accepted b t → Image start
      → (programmed b s start ≡ programmed b t start) ↔ OneLink b s t
  equal_images_exactly_for_one_link s t start hs ht I =
      let (forth, back) = general.same_image (page b) (lawful b) s t start hs ht I in
      let left-s = whole_programming b s start hs I in
      let left-t = whole_programming b t start ht I in
      let plain-s = canonical_plain b s hs in
      let plain-t = canonical_plain b t ht in (
        (λ e. plain→one s t (sym plain-s ∙ forth (sym left-s ∙ e ∙ left-t) ∙ plain-t)),
        (λ o. left-s ∙ back (plain-s ∙ one→plain s t o ∙ sym plain-t) ∙ sym left-t),
      )

  -- 2. Programming a link again changes no byte of the image.
  pub programming_again_changes_nothing : (l : Link) (start : List ℕ) → Accepted b l → Image start
      → programmed b l (programmed b l start) ≡ programmed b l start
  programming_again_changes_nothing l start h I =
      let left = whole_programming b l start h I in
      ap (programmed b l) left
      ∙ whole_programming b l (program (page b) l start) h (general.image_left (page b) (lawful b) l start h I)
      ∙ general.idempotent (page b) (lawful b) l start h I ∙ sym left

  -- 3. The reader, on what an accepted link leaves from any start, returns that link with the lowest frequency of its step and the clamped power.
  pub reader_returns_the_link : (l : Link) (start : List ℕ) → Accepted b l → Image start
      → read_link b (programmed b l start) ≡ told 0 (link_values (plainly l))
  reader_returns_the_link l start h I =
      ap (read_link b) (whole_programming b l start h I)
      ∙ reads (program (page b) l start) (general.image_left (page b) (lawful b) l start h I)
      ∙ ap tells_reading (general.read_program (page b) (lawful b) l start h I ∙ ap found (canonical_plain b l h))

  -- 4. The reader refuses (27) exactly those images of 128 bytes that no accepted link leaves on that board from any start.
  pub reader_refuses_exactly_what_no_link_leaves : (im : List ℕ) → Image im
      → (read_link b im ≡ refusal NotALink) ↔ ¬ ((l : Link) × (start : List ℕ) × Accepted b l × Image start × (programmed b l start ≡ im))
  reader_refuses_exactly_what_no_link_leaves im I =
      let (forth, back) = general.refused (page b) (lawful b) im I in
      let (is, told-so) = refusal_is (read (page b) im) in (
        (λ e (l, start, h, J, q). forth (is (sym (reads im I) ∙ e)) (l, start, h, J, sym (whole_programming b l start h J) ∙ q)),
        (λ none. reads im I ∙ told-so (back (λ (l, start, h, J, q). none (l, start, h, J, whole_programming b l start h J ∙ q)))),
      )
