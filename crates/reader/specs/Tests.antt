-- What the reader asks of a register: whether a link leaves the byte there as it is, and what it tells of the link.
use Rattle.std.specs.Prelude.{Bool, List, [], ◌∷◌, ℕ, eqb, length, get_or}
use Rattle.sheets.specs.Reader.{reader_order}
use Rattle.params.specs.declared.mod_params.Link.{Link}
use Rattle.params.specs.declared.board.Board.{Board}
use Rattle.page.specs.Page.{Place, written, find, improved}
use Rattle.page.specs.Lora.{places_of}

-- how many registers of the order a board has
abbrev pub registers : Board → ℕ
registers b = length (reader_order b.variant b.tcxo_used)

-- the link leaves the byte at an address as it is
unfoldable pub keeps : Board → Link → ℕ → List ℕ → Bool
keeps b l a im = eqb (written (find a (places_of b)) l (get_or im a 0)) (get_or im a 0)

-- what these registers tell, one after the other
abbrev pub learnt : List (Place Link) → List ℕ → List ℕ → Link → Link
learnt ps im [] t = t
learnt ps im (a ∷ more) t = learnt ps im more (improved (find a ps) (get_or im a 0) t)
