-- Laws of runs of steps: one run after another, the lengths that they keep, and the bytes of the log that they leave alone.
-- Assumes nothing.
use Rattle.std.proofs.Common.{◌≡◌, ℕ, ◌+◌, ◌*◌, ◌<◌, ◌≤◌, ◌⊎◌, List, [], ◌∷◌, ◌++◌, length, get_or, set, refl, ◌∙◌, inl, inr, ⊎_elim, arith, length-set, get_or-set_other}
use Rattle.bus.specs.Access.{Access, read, write, fifo_read, fifo_write, rf_switch, reset_pin, sleep_write, kind, place, datum, put3, image_by}
use Rattle.bus.specs.Steps.{Step, accesses, image_played, log_played, end_played, image_after, log_after, end_after, fifo_after, buffer_after, Done, Makes}

-- ---- one run after another

ends_append : (s t : List Step) (im : List ℕ) (at : ℕ) → end_after (s ++ t) im at ≡ end_after t (image_after s im) (end_after s im at)
ends_append [] t im at = refl
ends_append (x ∷ s) t im at = ends_append s t _ _

image_append : (s t : List Step) (im : List ℕ) → image_after (s ++ t) im ≡ image_after t (image_after s im)
image_append [] t im = refl
image_append (x ∷ s) t im = image_append s t _

log_append : (s t : List Step) (im log : List ℕ) (at : ℕ) → log_after (s ++ t) im log at ≡ log_after t (image_after s im) (log_after s im log at) (end_after s im at)
log_append [] t im log at = refl
log_append (x ∷ s) t im log at = log_append s t _ _ _

pub fifo_append : (s t : List Step) (im fifo : List ℕ) → fifo_after (s ++ t) im fifo ≡ fifo_after t (image_after s im) (fifo_after s im fifo)
fifo_append [] t im fifo = refl
fifo_append (x ∷ s) t im fifo = fifo_append s t _ _

pub buffer_append : (s t : List Step) (im fifo buffer : List ℕ)
    → buffer_after (s ++ t) im fifo buffer ≡ buffer_after t (image_after s im) (fifo_after s im fifo) (buffer_after s im fifo buffer)
buffer_append [] t im fifo buffer = refl
buffer_append (x ∷ s) t im fifo buffer = buffer_append s t _ _ _

-- steps that were done, and then others, are both done
pub then : {s t : List Step} {im im' im'' log log' log'' : List ℕ} {at r r' : ℕ}
    → Done s im log at r im' log' → Done t im' log' r r' im'' log'' → Done (s ++ t) im log at r' im'' log''
then {s} {t} {im} {im'} {im''} {log} {log'} {log''} {at} {r} {r'} p q = record {
  ends = rw (ends_append s t im at, ← p.ends, ← p.stored) q.ends;
  logged = rw (log_append s t im log at, ← p.logged, ← p.stored, ← p.ends) q.logged;
  stored = rw (image_append s t im, ← p.stored) q.stored;
}

-- and make the records of both
pub makes_then : (s t : List Step) (n m : ℕ) → Makes s n → Makes t m → Makes (s ++ t) (n + m)
makes_then s t n m p q im at = ends_append s t im at ∙ q (image_after s im) (end_after s im at) ∙ omega (arith, p im at)

-- ---- lengths

by_length : (x : Access) (im : List ℕ) → length (image_by x im) ≡ length im
by_length (read a v) im = refl
by_length (write a v) im = length-set im a _
by_length (fifo_read n) im = length-set im 13 _
by_length (fifo_write bs) im = length-set im 13 _
by_length (rf_switch p) im = refl
by_length reset_pin im = refl
by_length (sleep_write a v) im = length-set im a _

played_length : (xs : List Access) (im : List ℕ) → length (image_played xs im) ≡ length im
played_length [] im = refl
played_length (x ∷ xs) im = played_length xs _ ∙ by_length x im

pub image_length : (s : List Step) (im : List ℕ) → length (image_after s im) ≡ length im
image_length [] im = refl
image_length (x ∷ s) im = image_length s _ ∙ played_length (accesses x im) im

length_put3 : (log : List ℕ) (at k a d : ℕ) → length (put3 log at k a d) ≡ length log
length_put3 log at k a d = simp length-set

log_played_length : (xs : List Access) (log : List ℕ) (at : ℕ) → length (log_played xs log at) ≡ length log
log_played_length [] log at = refl
log_played_length (x ∷ xs) log at = log_played_length xs _ _ ∙ length_put3 log at (kind x) (place x) (datum x)

pub log_length : (s : List Step) (im log : List ℕ) (at : ℕ) → length (log_after s im log at) ≡ length log
log_length [] im log at = refl
log_length (x ∷ s) im log at = log_length s _ _ _ ∙ log_played_length (accesses x im) log at

-- three bytes a record
end_played_lem : (xs : List Access) (at : ℕ) → end_played xs at ≡ at + 3 * length xs
end_played_lem [] at = omega arith
end_played_lem (x ∷ xs) at = end_played_lem xs (at + 3) ∙ omega arith

-- ---- the log outside the new records

-- i lies before a stretch from a to e, or after it
abbrev pub Outside : ℕ → ℕ → ℕ → Type 0
Outside i a e = (i < a) ⊎ (e ≤ i)

put3_outside : (log : List ℕ) (at k a d i : ℕ) → Outside i at (at + 3) → get_or (put3 log at k a d) i 0 ≡ get_or log i 0
put3_outside log at k a d i o =
    get_or-set_other (set (set log at k) (at + 1) a) (at + 2) i d 0 (apart 2 (omega arith))
    ∙ get_or-set_other (set log at k) (at + 1) i a 0 (apart 1 (omega arith))
    ∙ get_or-set_other log at i k 0 (λ e. apart 0 (omega arith) (e ∙ omega arith))
  where
    apart : (j : ℕ) → j < 3 → i ≡ at + j → ⊥
    apart j h e = ⊎_elim (λ p. omega arith) (λ p. omega arith) o

-- outside a stretch is outside each part of it
inner : (i a b c e : ℕ) → a ≤ b → b ≤ c → c ≤ e → Outside i a e → Outside i b c
inner i a b c e h k l (inl p) = inl (omega arith)
inner i a b c e h k l (inr p) = inr (omega arith)

played_outside : (xs : List Access) (log : List ℕ) (at i : ℕ) → Outside i at (end_played xs at) → get_or (log_played xs log at) i 0 ≡ get_or log i 0
played_outside [] log at i o = refl
played_outside (x ∷ xs) log at i o =
    let e = end_played_lem xs (at + 3) in
    played_outside xs _ (at + 3) i (inner i at (at + 3) _ _ (omega arith) (omega arith) (omega arith) o)
    ∙ put3_outside log at (kind x) (place x) (datum x) i (inner i at at (at + 3) _ (omega arith) (omega arith) (omega arith) o)

ends_after : (s : List Step) (im : List ℕ) (at : ℕ) → at ≤ end_after s im at
ends_after [] im at = omega arith
ends_after (x ∷ s) im at =
    let e = end_played_lem (accesses x im) at in
    let h = ends_after s (image_played (accesses x im) im) (end_played (accesses x im) at) in
    omega arith

pub log_outside : (s : List Step) (im log : List ℕ) (at i : ℕ) → Outside i at (end_after s im at) → get_or (log_after s im log at) i 0 ≡ get_or log i 0
log_outside [] im log at i o = refl
log_outside (x ∷ s) im log at i o =
    let e = end_played_lem (accesses x im) at in
    let h = ends_after s (image_played (accesses x im) im) (end_played (accesses x im) at) in
    log_outside s _ _ _ i (inner i at (end_played (accesses x im) at) _ _ (omega arith) h (omega arith) o)
    ∙ played_outside (accesses x im) log at i (inner i at at (end_played (accesses x im) at) _ (omega arith) (omega arith) h o)
