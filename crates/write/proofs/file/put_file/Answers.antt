use Rattle.std.proofs.Common.{◌≡◌, refl, sym, ap, vec_items, rules, arith}
use Rattle.hir.specs.Encode.{items_words, identifier_words, scope_words, encode}
use Rattle.hir.specs.Held.{scopes_from}
use Rattle.hir.specs.Tables.{function_of}
use Rattle.write.specs.Puts.{over}
use Rattle.write.proofs.Lay.{wrote_as}
use Rattle.write.proofs.Rooms.{room_as, room_first, room_rest}
use Rattle.write.proofs.Sections.{behind_room, Laid, whole, file_laid}
use Rattle.write.proofs.file.put_file.Goals as goal

pub put-requires : goal.put-requires
put-requires c = room_first _ _ (behind_room c.args.tables.now c.requires refl)

pub items-requires : goal.items-requires
items-requires c =
    let r₁ = room_rest _ c.put.ensures (behind_room c.args.tables.now c.requires refl) in
    room_as (ap (items_words identifier_words) (sym c.as_slice.ensures.value)) (room_first _ _ r₁)

pub scopes-requires-clause-room : goal.scopes-requires-clause-room
scopes-requires-clause-room c =
    let r₁ = room_rest _ c.put.ensures (behind_room c.args.tables.now c.requires refl) in
    let w₂ = wrote_as (ap (items_words identifier_words) c.as_slice.ensures.value) c.items.ensures in
    room_as (ap (λ x. items_words scope_words (scopes_from 0 x (vec_items c.args.tables.now.environment.declarations.vec))) (sym c.as_slice-2.ensures.value)) (room_first _ _ (room_rest _ w₂ r₁))

pub body-requires : goal.body-requires
body-requires c =
    let r₁ = room_rest _ c.put.ensures (behind_room c.args.tables.now c.requires refl) in
    let w₂ = wrote_as (ap (items_words identifier_words) c.as_slice.ensures.value) c.items.ensures in
    let w₃ = wrote_as (ap (λ x. items_words scope_words (scopes_from 0 x (vec_items c.args.tables.now.environment.declarations.vec))) c.as_slice-2.ensures.value) c.scopes.ensures in
    record { stands = c.args.tables.now.rooted; room = room_rest _ w₃ (room_rest _ w₂ r₁) }

pub pairs-requires-clause-order : goal.pairs-requires-clause-order
pairs-requires-clause-order c =
    let w₂ = wrote_as (ap (items_words identifier_words) c.as_slice.ensures.value) c.items.ensures in
    let w₃ = wrote_as (ap (λ x. items_words scope_words (scopes_from 0 x (vec_items c.args.tables.now.environment.declarations.vec))) c.as_slice-2.ensures.value) c.scopes.ensures in
    let laid : Laid c.args.tables.now _ c.put.new.writer c.items.new.self c.scopes.new.self c.body.new.self = record { begins = refl; first = c.put.ensures; second = w₂; third = w₃; last = c.body.ensures } in
    let e = whole c.args.tables.now laid in
    (omega arith, (omega arith, (omega arith, omega arith)))

pub returns : goal.returns
returns c =
    let w₂ = wrote_as (ap (items_words identifier_words) c.as_slice.ensures.value) c.items.ensures in
    let w₃ = wrote_as (ap (λ x. items_words scope_words (scopes_from 0 x (vec_items c.args.tables.now.environment.declarations.vec))) c.as_slice-2.ensures.value) c.scopes.ensures in
    let laid : Laid c.args.tables.now _ c.put.new.writer c.items.new.self c.scopes.new.self c.body.new.self = record { begins = refl; first = c.put.ensures; second = w₂; third = w₃; last = c.body.ensures } in
    let filed : c.pairs.new.self.out.now ≡ over c.args.out.now 0 (encode (function_of c.args.tables.now)) = file_laid c.args.tables.now laid refl refl c.pairs.ensures in
    search rules
