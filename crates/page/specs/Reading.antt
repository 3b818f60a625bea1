-- What the link reader answers: the link that an image holds, or 26, or 27.
use Rattle.std.specs.Prelude.{Bool, true, false, List, ℕ, eqb, length}
use Rattle.params.specs.declared.mod_params.Link.{Link}
use Rattle.params.specs.declared.mod_params.RadioError.TheVariants.{BadImage, NotALink}
use Rattle.params.specs.Errors.{Told, told, refusal}
use Rattle.params.specs.Answers.{link_values}
use Rattle.params.specs.declared.board.Board.{Board}
use Rattle.page.specs.Page.{Reading, Reading.found, Reading.not_a_setting, read}
use Rattle.page.specs.Lora.{page}

abbrev pub tells_reading : Reading Link → Told
tells_reading (found l) = told 0 (link_values l)
tells_reading not_a_setting = refusal NotALink

-- an image has 128 bytes
abbrev pub tells_if : Bool → Reading Link → Told
tells_if true r = tells_reading r
tells_if false r = refusal BadImage

abbrev pub read_link : Board → List ℕ → Told
read_link b im = tells_if (eqb (length im) 128) (read (page b) im)
