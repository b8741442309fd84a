use Rattle.std.specs.Prelude.{◌≡◌, ℕ, List, [], ◌∷◌, codes}
use Rattle.std.proofs.Common.{rules, sym, ap, ◌∙◌, get_or}
use Rattle.tatp_instr.specs.declared.instr.Instr.{Instr}
use Rattle.tatp_instr.specs.declared.version.Version.TheVariants.{Two}
use Rattle.tatp_encoding.specs.Modules.{Procedure, ModuleState}
use Rattle.tatp_procs.proofs.CodeLaws.{seven_are, standard_is}
use Rattle.tatp_procs.proofs.procedures.is_standard.Goals as goal

abbrev parts : List ℕ → ℕ → List Instr → Procedure
parts name arity code = record { name = name; arity = arity; code = code }

abbrev procedures_of : ModuleState → List Procedure
procedures_of m = m.procedures

pub returns : goal.returns
returns c =
    let loaded_is = c.procs.ensures.value ∙ ap procedures_of c.module-module.ensures.value in
    let version : c.args.loaded.now.version ≡ Two = search rules in
    let a = c.consists_of.ensures.0 c.if-not-consists_of.false ∙ ap (parts (codes "GET_SUBSCRIBER_DATA") 1) c.get_subscriber_data.ensures in
    let b = c.consists_of-2.ensures.0 c.if-not-consists_of-2.false ∙ ap (parts (codes "GET_NEW_DESTINATION") 4) c.get_new_destination.ensures in
    let d = c.consists_of-3.ensures.0 c.if-not-consists_of-3.false ∙ ap (parts (codes "GET_ACCESS_DATA") 2) c.get_access_data.ensures in
    let e = c.consists_of-4.ensures.0 c.if-not-consists_of-4.false ∙ ap (parts (codes "UPDATE_SUBSCRIBER_DATA") 4) c.update_subscriber_data.ensures in
    let f = c.consists_of-5.ensures.0 c.if-not-consists_of-5.false ∙ ap (parts (codes "UPDATE_LOCATION") 2) c.update_location.ensures in
    let g = c.consists_of-6.ensures.0 c.if-not-consists_of-6.false ∙ ap (parts (codes "INSERT_CALL_FORWARDING") 5) c.insert_call_forwarding.ensures in
    let last = ap (parts (codes "DELETE_CALL_FORWARDING") 3) c.delete_call_forwarding.ensures in
    let are = seven_are c.procs.result.now c.a-item.result c.b-item.result c.c-item.result c.d-item.result c.e-item.result c.f-item.result c.g-item.result
    c.in-len7.len_at_least c.in-len7.len_below c.a-item.is c.b-item.is c.c-item.is c.d-item.is c.e-item.is c.f-item.is c.g-item.is in (
      λ h. let h' = c.consists_of-7.ensures.0 h ∙ last in standard_is c.args.loaded.now version (sym loaded_is ∙ are ∙ (λ i. a i ∷ b i ∷ d i ∷ e i ∷ f i ∷ g i ∷ h' i ∷ [])),
      λ is. c.consists_of-7.ensures.1 (c.g-item.is ∙ ap (λ m. get_or m 6 c.g-item.result) (loaded_is ∙ ap procedures_of is) ∙ sym last),
    )
