-- What the two streams of a tool hold, where that is known.
use Rattle.std.specs.Prelude.{ℕ, List, Option}
use Rattle.std.specs.Io.KnownBytes.{Appends, Keeps}
use Rattle.desk.specs.declared.streams.Stream.{Stream}
use Rattle.desk.specs.declared.streams.Stream.TheVariants.{Output, Error}
use Rattle.desk.specs.declared.streams.Streams.{Streams}

abbrev pub held : {O E : Type 0} → (O → Option (List ℕ)) → (E → Option (List ℕ)) → Stream → Streams O E → Option (List ℕ)
held output error Output s = output s.output
held output error Error s = error s.error

abbrev pub other : Stream → Stream
other Output = Error
other Error = Output

-- the other stream is as it was
abbrev pub Spares : {O E : Type 0} → (O → Option (List ℕ)) → (E → Option (List ℕ)) → Stream → Streams O E → Streams O E → Type 0
Spares output error to old new = Keeps (held output error (other to) old) (held output error (other to) new)

-- one stream grew by a text, and the other is as it was
abbrev pub Writes : {O E : Type 0} → (O → Option (List ℕ)) → (E → Option (List ℕ)) → Stream → Streams O E → Streams O E → List ℕ → Type 0
Writes output error to old new text = Appends (held output error to old) (held output error to new) text × Spares output error to old new
