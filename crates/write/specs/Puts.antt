-- What is written, and where: positions count words from the start of the buffer. Assumes nothing.
use Rattle.std.specs.Prelude.{◌≡◌, ℕ, ◌+◌, ◌*◌, ◌≤◌, List, [], ◌++◌, length, take, drop, Some, None, Option, IsSome}
use Rattle.format.specs.Words.{bytes}
use Rattle.write.specs.declared.writer.Writer.{Writer}

-- o with the words ws laid over it from word `at` on
abbrev pub over : List ℕ → ℕ → List ℕ → List ℕ
over o at ws = take (4 * at) o ++ (bytes ws ++ drop (4 * (at + length ws)) o)

-- the words ws fit into what is left of the buffer
pub record Room (v : Writer) (ws : List ℕ) : Type 0 where
  pub fits : 4 * (v.at + length ws) ≤ length v.out.now

-- w is the writer v, with the same buffer, once the words ws are written
pub record Wrote (v w : Writer) (ws : List ℕ) : Type 0 where
  pub same : w.out.ghost_name ≡ v.out.ghost_name
  pub is : w.out.now ≡ over v.out.now v.at ws
  pub to : w.at ≡ v.at + length ws
  pub fits : 4 * w.at ≤ length v.out.now
  pub long : length w.out.now ≡ length v.out.now

-- the words of what x stands for, if it stands for something
abbrev pub words_in : {X : Type 0} → (X → List ℕ) → Option X → List ℕ
words_in words None = []
words_in words (Some y) = words y

-- x stands for something, and its words fit
pub record Writable {X : Type 0} (words : X → List ℕ) (x : Option X) (v : Writer) : Type 0 where
  pub stands : IsSome x
  pub room : Room v (words_in words x)

-- the words of what x stands for are written
abbrev pub Written : {X : Type 0} → (X → List ℕ) → Option X → Writer → Writer → Type 0
Written words x v w = Wrote v w (words_in words x)
