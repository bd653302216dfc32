-- Lowering is faithful: the lowered function is well-formed and simulates the function.
-- Its records are followed from the table at the start to the table in the end.
use Rattle.std.proofs.Common.{◌≡◌, ℕ, Option, refl, arith}
use Rattle.hir.specs.Tree.{Function}
use Rattle.semantics.specs.Exec.{records_of}
use Rattle.semantics.specs.Targets.{nowhere}
use Rattle.simulation.specs.WellFormed.{sizes, WellFormed}
use Rattle.simulation.specs.Faithful.{Simulates, Kept}
use Rattle.simulation.proofs.Simulate.{places, simulates}
use Rattle.early_returns.specs.Lowering.{Env, ids, blocks, start, after_b, lowered}
use Rattle.early_returns.specs.Faithful.{LoweringFaithful}
use Rattle.early_returns.proofs.Growth.{Grown, grow_b}
use Rattle.early_returns.proofs.Sim.{out_b}
use Rattle.early_returns.proofs.KeepsBody.{low_b_ok}
use Rattle.early_returns.proofs.KeepsTables.{TablesOk, tables_ok, grown_larger}
use Rattle.early_returns.proofs.KeepsScopes.{low_b_scopes}
use Rattle.early_returns.proofs.KeepsJumps.{low_b_lands}

module _ (F : Function) (w : WellFormed F) where
  abbrev rec : ℕ → Option ℕ
  rec x = records_of F.scopes x

  -- the environment in the end
  abbrev end : Env
  end = after_b (records_of F.scopes) F.body (start F)

  grown : Grown (start F) end
  grown = grow_b rec (sizes F) F.body (start F) w.body_ok

  tables : TablesOk (sizes F) end
  tables = tables_ok rec (sizes F) F.body (start F) w.body_ok (record { identifiers_in = w.identifiers_ok; scopes_in = w.scopes_ok; many_scopes = refl })

  lowered_well_formed : WellFormed (lowered F)
  unfolding lowered
  lowered_well_formed = record {
    identifiers_ok = tables.identifiers_in;
    scopes_ok = tables.scopes_in;
    body_ok = low_b_ok (sizes F) _ (grown_larger grown) rec F.body (start F) w.body_ok (record { ids_under = omega arith; blocks_under = omega arith });
    jumps_land = low_b_lands rec F.body (start F) nowhere w.jumps_land;
    scopes_once = rw (low_b_scopes rec F.body (start F)) w.scopes_once;
  }

  lowered_simulates : (S : Type 0) → Simulates S F (lowered F)
  unfolding lowered
  lowered_simulates S = simulates F _ (blocks end) grown.more_blocks S (record {
    targets = w.jumps_land;
    targets' = low_b_lands rec F.body (start F) nowhere w.jumps_land;
    grown = grown.more_ids;
    related = λ H f. out_b H rec (records_of end.scopes) f (sizes F) (places (sizes F) F.scopes w.scopes_ok) (ids end) (blocks end) grown.more_blocks F.body (start F) w.body_ok (record {
      once = w.scopes_once;
      many = refl;
      ids_low = omega arith;
      blocks_low = omega arith;
      ids_high = omega arith;
      blocks_high = omega arith;
      old = λ y h. refl;
      new = λ y h. refl;
    });
  })

  pub lowered_kept : (S : Type 0) → Kept S F (lowered F)
  lowered_kept S = record { well_formed = lowered_well_formed; simulates = lowered_simulates S }

pub lowering_faithful : (S : Type 0) → LoweringFaithful S
lowering_faithful S = record {
  with_room = λ F F' w e. let q : lowered F ≡ F' = cc in rw (← q) (lowered_kept F w S);
  unless_refused = λ f h F F' w e. rw (h F F' w e) (lowered_kept F w S);
}
