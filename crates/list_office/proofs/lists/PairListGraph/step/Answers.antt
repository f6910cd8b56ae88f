use Rattle.std.proofs.Common.{sym, inl, inr, ⊎_elim}
use Rattle.list_office.proofs.Answering.{no_step}
use Rattle.list_office.proofs.lists.PairListGraph.step.Goals as goal

pub returns-then-from-ge64 : goal.returns-then-from-ge64
returns-then-from-ge64 c =
    sym (no_step c.args.self.now c.args.from c.args.to (⊎_elim (λ out. inl out) (λ out. inr out.1) c.then-from-ge64.either))
