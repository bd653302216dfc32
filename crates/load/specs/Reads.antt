-- What a reader has yet to read, and what it means to read by a definition. Assumes nothing.
use Rattle.std.specs.Prelude.{◌≡◌, ℕ, ◌+◌, ◌<◌, ◌≤◌, Ok, Err, Result, MatchResult}
use Rattle.hir.specs.declared.place.Place.{Place}
use Rattle.hir.specs.declared.terminal.ReactiveTerminalTargetKind.{ReactiveTerminalTargetKind}
use Rattle.hir.specs.Tree.{Term}
use Rattle.format.specs.declared.fault.FileFault.{FileFault}
use Rattle.format.specs.declared.fault.FileFault.TheVariants.{Limit}
use Rattle.format.specs.Parse.{Cursor, Read, jump_read, leave_read}
use Rattle.format.specs.Words.{words}
use Rattle.load.specs.declared.reader.Reader.{Reader}

abbrev pub cursor : Reader → Cursor
cursor r = record { at = r.at; rest = words r.rest.now; used = r.used }

-- from a to b, the reader read what the parser says
abbrev pub Reads : {X : Type 0} → (Cursor → Read X) → Reader → Reader → Result X FileFault → Type 0
Reads parser a b r = MatchResult r (λ x. parser (cursor a) ≡ Ok (x, cursor b)) (λ e. parser (cursor a) ≡ Err e)

-- the same, of an item that begins
abbrev pub Begins : (Cursor → Read (Unit {0})) → Reader → Reader → Result (Unit {0}) FileFault → Type 0
Begins parser a b r = MatchResult r (λ _. parser (cursor a) ≡ Ok (tt, cursor b)) (λ e. parser (cursor a) ≡ Err e)

-- the parts of a jump, whichever it is, and of a terminal that leaves the function
abbrev pub ReadsJump : Reader → Reader → Result (ℕ × ℕ × ReactiveTerminalTargetKind) FileFault → Type 0
ReadsJump a b r =
    MatchResult r (λ p. (make : ℕ → ℕ → ReactiveTerminalTargetKind → Term) → jump_read make (cursor a) ≡ Ok (make p.0 p.1 p.2, cursor b)) (λ e. (make : ℕ → ℕ → ReactiveTerminalTargetKind → Term) → jump_read make (cursor a) ≡ Err e)

abbrev pub ReadsLeave : Reader → Reader → Result (Place × ℕ) FileFault → Type 0
ReadsLeave a b r =
    MatchResult r (λ p. (make : Place → ℕ → Term) → leave_read make (cursor a) ≡ Ok (make p.0 p.1, cursor b)) (λ e. (make : Place → ℕ → Term) → leave_read make (cursor a) ≡ Err e)

-- a count goes from a to b, which is one more; where it stands at its limit, it stays, and the refusal says the place
abbrev pub Counts : ℕ → ℕ → ℕ → ℕ → Result (Unit {0}) FileFault → Type 0
Counts limit at a b r = MatchResult r (λ _. (a < limit) × (b ≡ a + 1)) (λ e. (limit ≤ a) × (b ≡ a) × (e ≡ Limit at))
