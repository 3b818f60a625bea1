-- What is printed of a report: totals, or the line that was refused.
use Rattle.std.specs.Prelude.{List, [], ◌∷◌, ◌++◌, ℕ}
use Rattle.params.specs.declared.line_faults.LineFault.{LineFault}
use Rattle.params.specs.Errors.{number_of}
use Rattle.params.specs.LineFaults.{error_of}
use Rattle.text.specs.Numbers.{decimal}
use Rattle.text.specs.Words.{ascii}
use Rattle.replies.specs.Names.{error_text}
use Rattle.time_on_air.specs.FaultWords.{words_of}

-- numbers, each between two texts
abbrev pub each_text : List ℕ → List ℕ → List ℕ → List ℕ
each_text before after [] = []
each_text before after (n ∷ ns) = before ++ (decimal n ++ (after ++ each_text before after ns))

abbrev pub lines : List ℕ → List ℕ
lines totals = each_text [] (ascii "\n") totals

-- behind a file's name
abbrev pub row : List ℕ → List ℕ
row totals = ascii "\t0" ++ (each_text (ascii "\t") [] totals ++ ascii "\n")

abbrev pub refused_row : LineFault → ℕ → List ℕ
refused_row f line = ascii "\t" ++ (decimal (number_of (error_of f)) ++ (ascii "\t" ++ (decimal line ++ ascii "\n")))

abbrev pub refused_text : LineFault → ℕ → List ℕ
refused_text f line = ascii "line " ++ (decimal line ++ (ascii ": " ++ (error_text (error_of f) ++ (words_of f ++ ascii "\n"))))
