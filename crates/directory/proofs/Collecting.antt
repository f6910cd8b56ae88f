-- The entries of a bank's offices, collected.
use Rattle.std.proofs.Common.{◌≡◌, ℕ, List, length, map, Ok, Vec, vec_items, Result, IfOk, sym, refl, ◌∙◌, subst, arith}
use Rattle.std.specs.Fn.{Called}
use Rattle.std.specs.Iterator.Adapters.{map_source, map_callee}
use Rattle.std.specs.List.{range_with_len}
use Rattle.std.proofs.iter.Yields.{nat_range_steps}
use Rattle.std.proofs.lemmas.Iterator.{maps, IsCollectResult, YieldsList-from_range, YieldsList-from_map_by}
use Rattle.std.proofs.lemmas.Iterator.Consumers.{map_from_collect}
use Rattle.std.proofs.lemmas.List.FromFn.{fill_by_all}
use denote.Param.Members.{Mut}
use Rattle.offices.specs.Model.{OfficeModel}
use Rattle.banks.specs.Banks.{no_office, office_at}
use Rattle.directory.specs.Heard.{entry_model}
use Rattle.directory.specs.declared.entry.OfficeEntry.{OfficeEntry}

-- where each call gave the entry of the office with that number
pub entries_collected : {F Z E : Type 0} (g : Mut F (ℕ × Unit {0}) OfficeEntry) (bank : List OfficeModel) (n : ℕ) (s : _) (r : Result (Vec OfficeEntry Z) E) (v : Vec OfficeEntry Z) (f : F) → n ≡ length bank → r ≡ Ok v → IsCollectResult (maps nat_range_steps g) s r → map_source s ≡ record { start = 0; end = n } → map_callee s ≡ f → ((o : ℕ) (e : OfficeEntry) (q : F) → Called g f (o, tt) e q → (q ≡ f) × (entry_model e ≡ office_at bank o)) → map entry_model (vec_items v) ≡ bank
entries_collected g bank n s r v f count was ran source callee each =
    let chain = YieldsList-from_map_by g entry_model (office_at bank) (YieldsList-from_range 0 n n source (omega arith)) callee each in
    subst (λ x. IfOk x (λ w. map entry_model (vec_items w) ≡ map (office_at bank) (range_with_len 0 n))) was (map_from_collect r ran chain)
    ∙ sym (fill_by_all (office_at bank) bank n no_office (sym count) (λ k l. refl))
