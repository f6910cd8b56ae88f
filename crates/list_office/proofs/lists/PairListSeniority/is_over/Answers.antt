use Rattle.std.proofs.Common.{rules, sym, inl, arith}
use Rattle.std.proofs.lemmas.Result.{MatchResult-weaker}
use Rattle.list_office.proofs.Answering.{over_outside, over_told}
use Rattle.list_office.proofs.lists.PairListSeniority.is_over.Goals as goal

pub returns-then-senior-ge64 : goal.returns-then-senior-ge64
returns-then-senior-ge64 c = sym (over_outside c.args.self.now c.args.senior c.args.junior (inl c.if-senior-ge64.true))

pub returns : goal.returns
returns c = over_told c.args.self.now c.args.senior c.args.junior _ _ _ _ (omega arith) (omega arith) (omega arith) (omega arith) c.best_chain.result c.is_ok_and.result c.best_chain.ensures (MatchResult-weaker c.best_chain.result c.is_ok_and.ensures (λ x p. search rules) (λ y q. q))
