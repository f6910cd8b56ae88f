use Rattle.std.proofs.Common.{◌≡◌, ℕ, ◌<◌, Bool, ◌&&◌, ◌||◌, eqb, Ok, Err, refl, ap, ◌∙◌, arith}
use mathlib.Core.Path.{fun_ext}
use Rattle.std.proofs.lemmas.Bool.{lt-ltb, cond_below, cond_above}
use Rattle.answers.specs.declared.Refusal.TheVariants.{NoSuchRole}
use Rattle.offices.specs.Model.{OfficeModel}
use Rattle.offices.specs.Drafting.{share}
use Rattle.offices.specs.Bases.{office_with, base_sets}
use Rattle.offices.specs.Members.{holds}
use Rattle.std.proofs.Math.Bool.{and-true}
use Rattle.offices.proofs.Histories.{keeps_refused, keeps_share, keeps_to}
use Rattle.offices.proofs.base.OfficeBase.share.Goals as goal

pub returns-then-role-self : goal.returns-then-role-self
returns-then-role-self c = record {
  answer = cond_above c.args.role c.args.self.now.table.roles (Ok tt) (Err NoSuchRole) (Err NoSuchRole) c.if-role-self.true refl;
  after = λ over. refl;
  history = λ over. keeps_refused (office_with c.args.self.now over) (share c.args.role) NoSuchRole;
  kept = refl;
}

marked_more : (c : goal.After-self-1) (a : ℕ) → holds c.with-self.result a ≡ (holds c.args.self.now.shared a || eqb a c.args.role)
marked_more c a =
    let small : c.args.role < 64 = omega (arith, c.args.self.now.table.few) in
    c.with-self.ensures a
    ∙ ap (λ x. holds c.args.self.now.shared a || (eqb a c.args.role && x)) (lt-ltb c.args.role 64 small)
    ∙ ap (λ x. holds c.args.self.now.shared a || x) (and-true (eqb a c.args.role))

pub returns : goal.returns
returns c =
    let b = c.args.self.now in
    let role = c.args.role in
    let marks = fun_ext (marked_more c) in
    let with_marks : (ℕ → ℕ → Bool) → (ℕ → Bool) → OfficeModel = λ over f. record { roles = b.table.roles; over = over; shared = f; sets = base_sets b } in
    record {
      answer = cond_below role b.table.roles (Ok tt) (Err NoSuchRole) c.if-role-self.false;
      after = λ over. ap (with_marks over) marks;
      history = λ over. keeps_to _ _ _ _ _ (ap (with_marks over) marks) (keeps_share (office_with b over) role (Ok tt));
      kept = refl;
    }
