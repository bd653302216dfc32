-- A turn that is due, as a match tells its frame.
-- Most frames find room on the stack for their parts.
use Rattle.std.proofs.Common.{◌≡◌, ℕ, ◌≤◌, length, vec_items, arith}
use Rattle.host.specs.declared.Host.{Ghosts}
use Rattle.run.specs.declared.frame.Exit.TheVariants as E
use Rattle.run.specs.declared.frame.Frame.{Frame}
use Rattle.run.specs.declared.machine.Machine.{Machine}
use Rattle.run.specs.Turn.{Ready, Due, Turns}
use Rattle.run.proofs.EndTurns.{Low, room_of}
use Rattle.run.proofs.Turning.{renamed, leads_as}

module _ {T : Type 0} (H : Ghosts T) (m : Machine T) {f g : Frame} (e : f ≡ g) where
  pub ready_as : Ready H m f → Ready H m g
  ready_as r = (r.0, leads_as (vec_items m.memory.now.frames) e r.1)

  pub due_as : m.memory.now.exit ≡ E.Normal → Ready H m f → ((n : ℕ) → Low n g → n ≤ 1000) → Due H m g
  due_as n r low =
      let l = leads_as (vec_items m.memory.now.frames) e r.1 in
      let k = m.memory.now.frames.ok.0 in
      let p = low (length (vec_items m.memory.now.frames)) (room_of (vec_items m.memory.now.frames) g l) in
      record { normal = n; room = omega arith; ready = (r.0, l) }

  pub turns_as : (n : Machine T) → Turns H m g n → Turns H m f n
  turns_as n t w l = renamed e (t w (leads_as (vec_items m.memory.now.frames) e l))
