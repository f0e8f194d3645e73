use Rattle.chainfile.proofs.leave.Goals as goal

pub returns : goal.returns
returns c more =
    let chain = c.chain.ensures in
    let filled = c.tables-edges.ensures in
    let verdicts = c.verdicts-lost in
    record {
      verdicts = verdicts.ensures more;
      answer =
          λ i.
          record {
            reading =
                record { number = 0; place = 0; states = chain.0 i; start = chain.1 i; goals = chain.2 i; edges = filled.1 i };
            lost = verdicts.result;
          };
      tables = filled.0;
    }
