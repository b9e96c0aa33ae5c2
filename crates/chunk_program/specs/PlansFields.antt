-- What contracts see of the fields of plans, and what always holds of them.
use Rattle.std.specs.Prelude.{◌≡◌, ◌+◌, ◌<◌, ◌≤◌, All, AllPairs, length}
use Rattle.std.specs.Arc.{arc_value}
use Rattle.air_base.specs.declared.limits.TheConstants.{MOST_REPLANS, MOST_SLOTS}
use Rattle.air_model.specs.Programs.{program}
use Rattle.chunk_program.specs.Editions.{Plans}
use Rattle.chunk_program.specs.declared.plans.PlanTable.{PlanTable}
use Rattle.chunk_program.specs.declared.plans.Plans.TheInside.{Inside}

-- What a table tells.
abbrev pub table_seen : PlanTable → Plans
table_seen t = record { replans = t.cycles.items; programs = t.programs.items; pix = t.pix.items }

-- Plans tell what their table does, which is kept once.
abbrev pub plans_seen : Inside → Plans
plans_seen p = table_seen (arc_value p.table)

-- Replans are few and come into force one after another, from cycle 1 on at the earliest. There is one program more, none is too long, and
-- there are PIX numbers for each.
pub record ArePlans (p : Plans) : Type 0 where
  pub few : length p.replans ≤ MOST_REPLANS
  pub from_one : All (λ at. 1 ≤ at) p.replans
  pub rising : AllPairs (λ a b. a < b) p.replans
  pub programs : length p.programs ≡ length p.replans + 1
  pub short : All (λ q. length (program q.disks) ≤ MOST_SLOTS) p.programs
  pub pix : length p.pix ≡ length p.programs
