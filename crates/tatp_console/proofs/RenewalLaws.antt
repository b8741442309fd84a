-- Rows that are opened anew.
use Rattle.std.proofs.Common.{◌≡◌, ℕ, ◌≤◌, ◌∙◌, sym, ap, subst, arith, length, Some, slice_get}
use Rattle.tatp_limits.specs.declared.limits.TheConstants.{MAX_SUBSCRIBERS}
use Rattle.tatp_tables.specs.Clean.{IsClean}
use Rattle.tatp_tables.specs.Database.{database_of}
use Rattle.tatp_tables.specs.declared.row.Rows.{Rows}
use Rattle.tatp_encoding.specs.Modules.{ModuleState}
use Rattle.tatp_procs.specs.Standard.{standard_module}
use Rattle.tatp_partition.specs.Sites.{SiteState}
use Rattle.tatp_dispatch.specs.Gathered.{gathered, gathered_rows}
use Rattle.tatp_dispatch.specs.Opened.{IsOpened}
use Rattle.tatp_console.specs.Replying.{IsAtRestAfter}
use Rattle.tatp_dispatch.specs.Serving.{IsWorld}
use Rattle.tatp_dispatch.specs.Shown.{set_back}
use Rattle.tatp_dispatch.specs.Worlds.{WorldState}
use Rattle.tatp_dispatch.proofs.OnceLaws.{world_clean}
use Rattle.tatp_dispatch.proofs.RestLaws.{opened_at_rest, longer_at_rest}

-- the gathered rows can be opened
pub rows_clean : (w : WorldState) (rows : Rows) → IsWorld w → rows ≡ gathered_rows w → IsClean rows
rows_clean w rows is e = subst IsClean (sym e) (world_clean w is).clean

pub rows_few : (w : WorldState) (rows : Rows) → IsWorld w → rows ≡ gathered_rows w → length rows.subscribers ≤ MAX_SUBSCRIBERS
rows_few w rows is e = omega (arith, ap (λ (r : Rows). length r.subscribers) e, (world_clean w is).size, is.few)

-- what is opened for one client is at rest, and has the module and the database that were there
pub opened_first : (fresh : WorldState) (rows : Rows) (m : ModuleState) (partitions lines : ℕ) → IsOpened m rows partitions 1 fresh → IsWorld fresh → m ≡ standard_module → IsAtRestAfter lines fresh
opened_first fresh rows m partitions lines opened is standard = record {
  standard = opened.runs ∙ standard;
  world = is;
  rest = longer_at_rest 0 lines fresh (omega arith) (opened_at_rest m rows partitions fresh opened);
}

pub opened_rest : (w fresh : WorldState) (rows : Rows) (m : ModuleState) (s : SiteState) (partitions : ℕ) → IsOpened m rows partitions 1 fresh → IsWorld fresh → IsWorld w → slice_get w.sites 0 ≡ Some s → m ≡ s.modul
    → w.modul ≡ standard_module → (lines : ℕ) → IsAtRestAfter lines fresh
opened_rest w fresh rows m s partitions opened is before at own standard = λ lines. opened_first fresh rows m partitions lines opened is (own ∙ ((before.sites 0 s at).runs ∙ standard))

pub opened_back : (w fresh : WorldState) (rows : Rows) (m : ModuleState) (partitions clients : ℕ) → IsOpened m rows partitions clients fresh → rows ≡ gathered_rows w → set_back w ≡ gathered w → set_back fresh ≡ set_back w
opened_back w fresh rows m partitions clients opened e rest = opened.back ∙ (ap database_of e ∙ sym rest)
