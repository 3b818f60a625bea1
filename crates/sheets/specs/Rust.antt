-- Rules of the Rust that this driver had and goes by no more, and where they differ from the sheets' rule that it has now.
use Rattle.std.specs.Prelude.{cond, ◌&&◌, List, [], ◌∷◌, ℕ, ◌/◌, ◌^◌, eqb, ltb}
use Rattle.sheets.specs.Modem.{hertz}

-- ---- low data rate optimize (document 02, request [2])

-- the time of a symbol in ms, by two divisions, each rounded down
abbrev pub symbol_time : ℕ → ℕ → ℕ
symbol_time sf bw = 1000 / (hertz bw / 2 ^ sf)

-- above 16, so not where 16.384 ms became 16
unfoldable pub the_rust's_optimize : ℕ → ℕ → ℕ
the_rust's_optimize sf bw = cond (ltb 16 (symbol_time sf bw)) 1 0

-- the pairs of spreading factor and bandwidth where the sheets' flag is on and the Rust's is off
abbrev pub six_pairs : List (ℕ × ℕ)
six_pairs =
    (7, 0)  -- 7.8 kHz
    ∷ (8, 2)  -- 15.6 kHz
    ∷ (9, 4)  -- 31.25 kHz
    ∷ (10, 6)  -- 62.5 kHz
    ∷ (11, 7)  -- 125 kHz
    ∷ (12, 8)  -- 250 kHz
    ∷ []

-- 1 for a pair that is listed
abbrev pub listed : List (ℕ × ℕ) → ℕ → ℕ → ℕ
listed [] sf bw = 0
listed (p ∷ ps) sf bw = cond (eqb p.0 sf && eqb p.1 bw) 1 (listed ps sf bw)
