-- `radiolog_text::log_lines::put_records` meets its contract: the line of one record more, and all of them at the end.
use Rattle.std.proofs.Common.{◌∙◌, [], refl, ap, arith, take_all}
use Rattle.text.proofs.printing.Appending.{one_more, same}
use Rattle.radiolog_text.proofs.log_lines.Records.{record_in, records_in, whole}
use Rattle.radiolog_text.proofs.log_lines.put_records.Goals as goal

pub loop-kind-preserved : goal.loop-kind-preserved
loop-kind-preserved c = record {
  put =
      one_more records_in record_in refl (λ r rs. refl) c.as_chunks.result.0.now c.loop-kind.kind-index [] c.loop-kind-test.true
      c.loop-kind.invariant.put
      c.put_record.ensures.appended;
  short = omega arith;
}

pub returns-clause-appended : goal.returns-clause-appended
returns-clause-appended c =
    let all = take_all c.loop-kind.kind-index c.as_chunks.result.0.now c.loop-kind-test.false in
    same (ap records_in (all ∙ c.as_chunks.ensures.front) ∙ whole _ c.args.log.now refl) c.loop-kind.invariant.put
