use Rattle.tree_office.specs.Seniors.{senior_in}
use Rattle.tree_office.specs.Climbing.{grows_from}
use Rattle.tree_office.proofs.tree.Tree.senior.Goals as goal

pub returns-in_err-get-clause-tree : goal.returns-in_err-get-clause-tree
returns-in_err-get-clause-tree c = let t = c.args.self.now in (grows_from 64 (senior_in t) t.grows).1

pub returns-clause-tree : goal.returns-clause-tree
returns-clause-tree c = let t = c.args.self.now in (grows_from 64 (senior_in t) t.grows).1
