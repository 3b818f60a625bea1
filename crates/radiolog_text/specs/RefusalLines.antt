-- The line that tells a refusal.
use Rattle.std.specs.Prelude.{List, ◌++◌, ℕ}
use Rattle.params.specs.declared.mod_params.RadioError.{RadioError}
use Rattle.params.specs.Errors.{refusal}
use Rattle.text.specs.Words.{ascii}
use Rattle.replies.specs.Answers.{answer_text}
use Rattle.replies.specs.Names.{name_of}

-- an exclamation mark, the number with its values, and the name, parted by tabs
abbrev pub refused_text : RadioError → List ℕ
refused_text e = ascii "!\t" ++ (answer_text (refusal e) ++ (ascii "\t" ++ (name_of e ++ ascii "\n")))
