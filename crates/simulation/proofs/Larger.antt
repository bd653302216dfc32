-- What is well-formed with some sizes is well-formed with larger ones.
-- Passes add identifiers, labels, types and ranges, so what they keep stays in range.
use Rattle.std.proofs.Common.{◌<◌, ◌≤◌, Some, None, Option, arith}
use Rattle.hir.specs.declared.place.Place.{Place}
use Rattle.hir.specs.declared.terminal.ReactiveLabel.{ReactiveLabel}
use Rattle.hir.specs.declared.environment.Identifier.{Identifier}
use Rattle.hir.specs.declared.environment.ReactiveScopeEarlyReturn.{ReactiveScopeEarlyReturn}
use Rattle.hir.specs.declared.environment.ReactiveScopeDeclaration.{ReactiveScopeDeclaration}
use Rattle.hir.specs.Tree.{Op, Val, operation, logical, conditional, sequence, optional, OptVal, no_val, some_val, Instr, instr, Instrs, inil, icons, Stmt, instruction, scope, pruned, terminal, Term, break, continue, return, throw, switch, do_while, while, for, for_of, for_in, if, label, try, Cases, knil, kcons, OptBlock, no_block, some_block, Block, nil, cons, ScopeInfo}
use Rattle.simulation.specs.WellFormed.{IfSome, Sizes, IdentifierOk, RecordOk, DeclarationOk, ScopeOk, PlaceOk, LabelOk, OpOk, OkV, OkI, OkIs, OkU, OkS, OkT, OkK, OkO, OkB}
use Rattle.simulation.proofs.Lists.{all_map}

pub record Larger (Z Z' : Sizes) : Type 0 where
  pub more_identifiers : Z.identifiers ≤ Z'.identifiers
  pub more_scopes : Z.scopes ≤ Z'.scopes
  pub more_blocks : Z.blocks ≤ Z'.blocks
  pub more_types : Z.types ≤ Z'.types
  pub more_ranges : Z.ranges ≤ Z'.ranges

some_map : {A : Type 0} (P Q : A → Type 0) (o : Option A) → ((x : A) → P x → Q x) → IfSome P o → IfSome Q o
some_map P Q None f h = tt
some_map P Q (Some x) f h = f x h

module _ (Z Z' : Sizes) (m : Larger Z Z') where
  -- ---- the tables
  pub more_identifier : (i : Identifier) → IdentifierOk Z i → IdentifierOk Z' i
  more_identifier i w = record {
    declaration_in = omega (arith, w.declaration_in, m.more_identifiers);
    range_in = omega (arith, w.range_in, m.more_ranges);
    scope_in = some_map (λ x. x < Z.scopes) (λ x. x < Z'.scopes) i.scope (λ x h. omega (arith, h, m.more_scopes)) w.scope_in;
    type_in = omega (arith, w.type_in, m.more_types);
  }

  more_record : (r : ReactiveScopeEarlyReturn) → RecordOk Z r → RecordOk Z' r
  more_record r w = record { value_in = omega (arith, w.value_in, m.more_identifiers); label_in = omega (arith, w.label_in, m.more_blocks) }

  more_declaration : (d : ReactiveScopeDeclaration) → DeclarationOk Z d → DeclarationOk Z' d
  more_declaration d w = record {
    key_in = omega (arith, w.key_in, m.more_identifiers);
    identifier_in = omega (arith, w.identifier_in, m.more_identifiers);
    scope_in = omega (arith, w.scope_in, m.more_scopes);
  }

  pub more_scope : (s : ScopeInfo) → ScopeOk Z s → ScopeOk Z' s
  more_scope s w = record {
    record_in = some_map (RecordOk Z) (RecordOk Z') s.early more_record w.record_in;
    declarations_in = all_map (DeclarationOk Z) (DeclarationOk Z') s.declarations more_declaration w.declarations_in;
  }

  -- ---- the body
  pub more_place : (p : Place) → PlaceOk Z p → PlaceOk Z' p
  more_place p w = omega (arith, w, m.more_identifiers)

  pub more_target : (o : Option Place) → IfSome (PlaceOk Z) o → IfSome (PlaceOk Z') o
  more_target o w = some_map (PlaceOk Z) (PlaceOk Z') o more_place w

  pub more_label : (o : Option ReactiveLabel) → IfSome (LabelOk Z) o → IfSome (LabelOk Z') o
  more_label o w = some_map (LabelOk Z) (LabelOk Z') o (λ l h. omega (arith, h, m.more_blocks)) w

  more_op : (o : Op) → OpOk Z o → OpOk Z' o
  more_op o w = record {
    written_in = all_map (PlaceOk Z) (PlaceOk Z') o.written more_place w.written_in;
    operands_in = all_map (PlaceOk Z) (PlaceOk Z') o.operands more_place w.operands_in;
    written_many = w.written_many;
    operands_many = w.operands_many;
  }

  mutual
    pub more_v : (v : Val) → OkV Z v → OkV Z' v
    more_v (operation o) w = more_op o w
    more_v (logical o a b) w = (more_v a w.0, more_v b w.1)
    more_v (conditional c a b) w = (more_v c w.0, more_v a w.1, more_v b w.2)
    more_v (sequence is i v) w = (more_is is w.0, more_v v w.1)
    more_v (optional v o) w = more_v v w

    pub more_i : (i : Instr) → OkI Z i → OkI Z' i
    more_i (instr i l v n) w = (more_target l w.0, more_v v w.1)

    pub more_is : (is : Instrs) → OkIs Z is → OkIs Z' is
    more_is inil w = tt
    more_is (icons i is) w = (more_i i w.0, more_is is w.1)

  pub more_u : (u : OptVal) → OkU Z u → OkU Z' u
  more_u no_val w = tt
  more_u (some_val v) w = more_v v w

  mutual
    pub more_s : (x : Stmt) → OkS Z x → OkS Z' x
    more_s (instruction i) w = more_i i w
    more_s (scope x b) w = (omega (arith, w.0, m.more_scopes), more_b b w.1)
    more_s (pruned x b) w = (omega (arith, w.0, m.more_scopes), more_b b w.1)
    more_s (terminal t l) w = (more_t t w.0, more_label l w.1)

    more_t : (t : Term) → OkT Z t → OkT Z' t
    more_t (break l i k) w = omega (arith, w, m.more_blocks)
    more_t (continue l i k) w = omega (arith, w, m.more_blocks)
    more_t (return p i) w = more_place p w
    more_t (throw p i) w = more_place p w
    more_t (switch p cs i) w = (more_place p w.0, more_k cs w.1)
    more_t (do_while b v i) w = (more_b b w.0, more_v v w.1)
    more_t (while v b i) w = (more_v v w.0, more_b b w.1)
    more_t (for a v u b i) w = (more_v a w.0, more_v v w.1, more_u u w.2, more_b b w.3)
    more_t (for_of a v b i n) w = (more_v a w.0, more_v v w.1, more_b b w.2)
    more_t (for_in v b i n) w = (more_v v w.0, more_b b w.1)
    more_t (if p b c i) w = (more_place p w.0, more_b b w.1, more_o c w.2)
    more_t (label b i) w = more_b b w
    more_t (try b p c i) w = (more_b b w.0, more_target p w.1, more_b c w.2)

    more_k : (cs : Cases) → OkK Z cs → OkK Z' cs
    more_k knil w = tt
    more_k (kcons t b cs) w = (more_target t w.0, more_o b w.1, more_k cs w.2)

    more_o : (b : OptBlock) → OkO Z b → OkO Z' b
    more_o no_block w = tt
    more_o (some_block b) w = more_b b w

    pub more_b : (b : Block) → OkB Z b → OkB Z' b
    more_b nil w = tt
    more_b (cons x b) w = (more_s x w.0, more_b b w.1)
