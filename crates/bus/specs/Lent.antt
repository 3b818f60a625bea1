-- What a call is lent, before it and after it: the radio's registers and the log.
use Rattle.std.specs.Prelude.{◌≡◌, ℕ, ◌+◌, ◌*◌, ◌≤◌, List, [], length}
use Rattle.bus.specs.declared.Radio.{Radio}
use Rattle.bus.specs.declared.log.Log.{Log}
use Rattle.bus.specs.declared.log.Kind.{Kind}
use Rattle.bus.specs.declared.log.Kind.TheVariants as kind
use Rattle.bus.specs.declared.pins.Antenna.{Antenna}
use Rattle.bus.specs.declared.pins.Antenna.TheVariants as antenna
use Rattle.params.specs.Errors.{Told}
use Rattle.bus.specs.Access.{put3, store}
use Rattle.bus.specs.Steps.{Step, Done}
use Rattle.bus.specs.Call.{Outcome, Meets}

abbrev pub kind_number : Kind → ℕ
kind_number kind.Read = 0
kind_number kind.Write = 1
kind_number kind.FifoRead = 2
kind_number kind.FifoWrite = 3
kind_number kind.RfSwitch = 4
kind_number kind.ResetPin = 5
kind_number kind.SleepWrite = 6

abbrev pub position : Antenna → ℕ
position antenna.Off = 0
position antenna.Receive = 1
position antenna.Transmit = 2

-- ---- room for n records

abbrev pub LogRoom : ℕ → Log → Type 0
LogRoom n log = log.used + 3 * n ≤ length log.bytes.now

-- and an image as it should be
abbrev pub Room : ℕ → Radio → Type 0
Room n r = (r.used + 3 * n ≤ length r.log.now) × (length r.image.now ≡ 128)

-- ---- what was done, to the bytes that were lent

abbrev pub SameLog : Log → Log → Type 0
SameLog before after = after.bytes.ghost_name ≡ before.bytes.ghost_name

pub record Same (before after : Radio) : Type 0 where
  pub image : after.image.ghost_name ≡ before.image.ghost_name
  pub log : after.log.ghost_name ≡ before.log.ghost_name

-- one record more
pub record Recorded (k a d : ℕ) (before after : Radio) : Type 0 where
  pub same : Same before after
  pub ends : after.used ≡ before.used + 3
  pub logged : after.log.now ≡ put3 before.log.now before.used k a d
  pub image : after.image.now ≡ before.image.now

-- and a register written
pub record Stored (k a v : ℕ) (before after : Radio) : Type 0 where
  pub same : Same before after
  pub ends : after.used ≡ before.used + 3
  pub logged : after.log.now ≡ put3 before.log.now before.used k a v
  pub image : after.image.now ≡ store a v before.image.now

-- steps that leave the image as it was
pub record Logged (s : List Step) (im : List ℕ) (before after : Log) : Type 0 where
  pub same : SameLog before after
  pub done : Done s im before.bytes.now before.used after.used im after.bytes.now

pub record Did (s : List Step) (before after : Radio) : Type 0 where
  pub same : Same before after
  pub done : Done s before.image.now before.log.now before.used after.used after.image.now after.log.now

-- ---- a call

-- What a call tells and leaves is an outcome of what it was lent; it was lent no FIFO and no buffer.
pub record Calls (o : List ℕ → List ℕ → ℕ → Outcome) (t : Told) (before after : Radio) : Type 0 where
  pub same : Same before after
  pub meets : Meets (o before.image.now before.log.now before.used) t after.used after.image.now [] after.log.now []
