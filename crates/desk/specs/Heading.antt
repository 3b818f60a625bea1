-- What stands over a file's part of the output: its name, and before it an empty line but for the first file.
use Rattle.std.specs.Prelude.{Bool, true, false, List, ◌++◌, ℕ}
use Rattle.text.specs.Words.{ascii}

abbrev pub title : List ℕ → List ℕ
title name = ascii "file              " ++ (name ++ ascii "\n")

abbrev pub heading : Bool → List ℕ → List ℕ
heading true name = title name
heading false name = ascii "\n" ++ title name
