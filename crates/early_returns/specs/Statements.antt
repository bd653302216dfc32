-- The statements that the pass writes, with the effects, flags and spans of the compiler. Assumes nothing.
use Rattle.std.specs.Prelude.{ℕ, true, false, List, [], ◌∷◌, Some, None}
use Rattle.hir.specs.declared.place.Place.{Place}
use Rattle.hir.specs.declared.place.Effect.{Effect}
use Rattle.hir.specs.declared.place.Effect.TheVariants.{Unknown, Capture, ConditionallyMutate}
use Rattle.hir.specs.declared.terminal.ReactiveTerminalTargetKind.TheVariants.{Labeled}
use Rattle.hir.specs.Tree.{operation, instr, Stmt, instruction, terminal, break, label, Block, nil, cons}

-- a place of a temporary: no effect is known of it, and its source is generated
abbrev pub generated : ℕ → Place
generated i = record { identifier = i; effect = Unknown; reactive = false; span = 0 }

abbrev pub reactive_place : ℕ → Effect → ℕ → Place
reactive_place i e span = record { identifier = i; effect = e; reactive = true; span = span }

-- an instruction of the opening: the answer to a question goes to the temporary d
abbrev pub asks : ℕ → ℕ → List Place → ℕ → ℕ → Stmt
asks kind payload places d span = instruction (instr 0 (Some (generated d)) (operation (record { kind = kind; payload = payload; written = []; operands = places; span = span })) span)

-- a StoreLocal (kind 4) of the place p; the payload is its kind of store: 1 Let, 2 Reassign
abbrev pub stores : ℕ → Place → Place → ℕ → Stmt
stores payload d p span = instruction (instr 0 None (operation (record { kind = 4; payload = payload; written = d ∷ []; operands = p ∷ []; span = span })) span)

-- LoadGlobal Symbol, PropertyLoad for, Primitive react.early_return_sentinel, MethodCall, StoreLocal; then the Label around the block
abbrev pub opening : ℕ → ℕ → ℕ → ℕ → ℕ → ℕ → ℕ → Block → Block
opening value sentinel symbol for arg l span b =
    cons (asks 28 1 [] symbol span)
    (cons (asks 23 2 (generated symbol ∷ []) for span)
    (cons (asks 7 3 [] arg span)
    (cons (asks 12 0 (generated symbol ∷ generated for ∷ generated arg ∷ []) sentinel span)
    (cons (stores 1 (reactive_place value ConditionallyMutate span) (generated sentinel) span)
    (cons (terminal (label b 0) (Some (record { id = l; implicit = false }))) nil)))))

-- in the place of an open return of p: a store to the identifier `value` and a labeled break to l
abbrev pub leaving : ℕ → ℕ → Place → Block → Block
leaving value l p r = cons (stores 2 (reactive_place value Capture p.span) p p.span) (cons (terminal (break l 0 Labeled) None) r)
