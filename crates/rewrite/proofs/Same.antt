-- A loaded file is written as the same bytes. Assumes nothing.
use Rattle.std.proofs.Common.{◌≡◌, ℕ, suc, ◌*◌, ◌<◌, List, [], ◌∷◌, ◌++◌, length, get_or, drop, sym, ap, ◌∙◌, subst, arith, w8, Fits, Ok, Err, Result, MatchResult}
use Rattle.std.specs.List.{AllByRecursion}
use Rattle.hir.specs.declared.settled.Settled.{Settled}
use Rattle.hir.specs.declared.tables.Tables.{Tables}
use Rattle.hir.specs.Encode.{encode}
use Rattle.hir.specs.Tables.{function_of}
use Rattle.format.specs.declared.fault.CallFault.{CallFault}
use Rattle.format.specs.Words.{bytes}
use Rattle.format.proofs.Bytes.{bytes_length, bytes_come_back}
use Rattle.load.specs.Loads.{Loaded}
use Rattle.write.specs.declared.file.Refused.{Refused}
use Rattle.write.specs.File.{Saved, TooSmall}
use Rattle.rewrite.specs.Rewrites.{Back, Why, Kept}

pub all_bytes : (bs : List ℕ) → ((k : ℕ) → Fits w8 (get_or bs k 0)) → AllByRecursion (λ b. b < 256) bs
all_bytes [] h = tt
all_bytes (b ∷ bs) h = ((h 0).fits, all_bytes bs (λ k. h (suc k)))

pub same_bytes : (bs : List ℕ) (t : Tables) → AllByRecursion (λ b. b < 256) bs → Loaded bs t → bytes (encode (function_of t)) ≡ bs
same_bytes bs t h l = bytes_come_back bs (function_of t) h l.parsed

pub same_length : (bs : List ℕ) (t : Tables) → AllByRecursion (λ b. b < 256) bs → Loaded bs t → 4 * length (encode (function_of t)) ≡ length bs
same_length bs t h l = omega (arith, bytes_length (encode (function_of t)), ap length (same_bytes bs t h l))

pub written_back : (bs o p : List ℕ) (t : Tables) (n : ℕ) → AllByRecursion (λ b. b < 256) bs → Loaded bs t → Saved (function_of t) o p n → Back bs o p t n
written_back bs o p t n h l s =
    record { long = s.long ∙ same_length bs t h l; fits = s.fits; is = s.is ∙ ap (λ b. b ++ drop n o) (same_bytes bs t h l); loaded = l }

pub kept_short : (bs o p : List ℕ) (t : Tables) (s : Settled) (e : Refused) → AllByRecursion (λ b. b < 256) bs → Loaded bs t → TooSmall (function_of t) s o p e → Kept bs o p t e.fault
kept_short bs o p t s e h l m =
    let less : length o < length bs = omega (arith, m.short, same_length bs t h l) in
    record { why = subst (λ (f : CallFault). Why bs o t f) (sym m.fault) (less, l); same = m.same }

-- what the write says, with the fault alone in a refusal
pub back_or_kept : (bs o p : List ℕ) (t : Tables) (s : Settled) (w : Result ℕ Refused) (r : Result ℕ CallFault) → AllByRecursion (λ b. b < 256) bs → Loaded bs t →
    MatchResult w (Saved (function_of t) o p) (TooSmall (function_of t) s o p) → MatchResult w (λ n. r ≡ Ok n) (λ e. r ≡ Err e.fault) → MatchResult r (Back bs o p t) (Kept bs o p t)
back_or_kept bs o p t s (Ok n) r h l m e = rw e (written_back bs o p t n h l m)
back_or_kept bs o p t s (Err e) r h l m f = rw f (kept_short bs o p t s e h l m)
