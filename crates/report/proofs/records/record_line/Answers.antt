use borrow.Author.Rules.{rules}
use Rattle.engines.specs.Trace.{record_in}
use Rattle.report.proofs.StepLines.{record_short}
use Rattle.text.proofs.Paging.{and}
use Rattle.report.proofs.records.record_line.Goals as goal

pub returns : goal.returns
returns c =
    let r = record_in c.args.numbers.now c.args.i in (
      and (and (and c.named.ensures c.named-2.ensures) c.named-3.ensures) c.count_line.ensures,
      record_short r.state r.rows r.columns r.divisor (search rules) (search rules) (search rules) (search rules),
    )
