use Rattle.offices.specs.Bases.{office_with}
use Rattle.offices.proofs.Histories.{keeps_exclude, keeps_to}
use Rattle.offices.proofs.base.OfficeBase.exclude.Goals as goal

pub returns : goal.returns
returns c =
    let e = c.add.ensures in
    record {
      answer = e.answer;
      after = λ over. cc;
      history = λ over. keeps_to _ _ _ _ _ (cc) (keeps_exclude (office_with c.args.self.now over) c.args.members.now c.args.bound c.add.result);
      kept = e.kept;
    }
