-- `text::reading::fields::field`: the fields that are left give the field that was asked.
use Rattle.std.proofs.Common.{◌≡◌, ◌-◌}
use Rattle.text.specs.Fields.{field_at}
use Rattle.text.proofs.reading.fields.field.Given as goal

abbrev pub invariant-loop : goal.invariant-loop
invariant-loop l = field_at l.sep (l.k - l.counter) l.rest ≡ field_at l.sep l.k l.s
