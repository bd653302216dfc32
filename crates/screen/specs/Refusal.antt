-- The two lines that tell a refusal: its number, and what it means, with the place where it has one. Assumes nothing.
use Rattle.std.specs.Prelude.{ℕ, List, [], ◌∷◌, ◌++◌, codes, decimal}
use Rattle.fault.specs.declared.RunFault.{RunFault}
use Rattle.fault.specs.declared.RunFault.TheVariants.{StoreTooShort, BudgetTooLarge}
use Rattle.format.specs.declared.fault.FileFault.{FileFault}
use Rattle.format.specs.declared.fault.FileFault.TheVariants.{Length, Pairs, Reading, Limit}
use Rattle.format.specs.declared.fault.CheckFault.{CheckFault}
use Rattle.format.specs.declared.fault.CheckFault.TheVariants.{Numbers, Shapes, Targets, Scopes}
use Rattle.format.specs.declared.fault.LoadFault.{LoadFault}
use Rattle.format.specs.declared.fault.LoadFault.TheVariants.{File, Check}
use Rattle.screen.specs.declared.refusal.Refusal.{Refusal}
use Rattle.screen.specs.declared.refusal.Refusal.TheVariants.{Load, Run}

-- the number on its line, then what it means
abbrev pub refused : List ℕ → List ℕ → List ℕ
refused number what = codes "refused " ++ (number ++ (10 ∷ (what ++ 10 ∷ [])))

-- the number on its line, then where (which word, or which statement) and what it means
abbrev pub refused_at : List ℕ → List ℕ → ℕ → List ℕ → List ℕ
refused_at number kind place what = codes "refused " ++ (number ++ (10 ∷ (kind ++ (32 ∷ (decimal place ++ (codes ": " ++ (what ++ 10 ∷ [])))))))

abbrev pub file_lines : FileFault → List ℕ
file_lines Length = refused (codes "1") (codes "the length is no multiple of 4 from 48 to 65536 bytes")
file_lines (Pairs p) = refused_at (codes "2") (codes "word") p (codes "the pairs do not say where the sections stand")
file_lines (Reading p) = refused_at (codes "3") (codes "word") p (codes "a section ends elsewhere, or a case, option or flag is out of range")
file_lines (Limit p) = refused_at (codes "4") (codes "word") p (codes "a limit is passed")

abbrev pub check_lines : CheckFault → List ℕ
check_lines (Numbers p) = refused_at (codes "5") (codes "statement") p (codes "a number is not in its table, or not below its counter")
check_lines (Shapes p) = refused_at (codes "6") (codes "statement") p (codes "a value has not the places that its kind asks for")
check_lines (Targets p) = refused_at (codes "7") (codes "statement") p (codes "a jump has no target around it")
check_lines (Scopes p) = refused_at (codes "8") (codes "statement") p (codes "a scope has a record, or a second Scope block")

abbrev pub load_lines : LoadFault → List ℕ
load_lines (File f) = file_lines f
load_lines (Check f) = check_lines f

abbrev pub run_lines : RunFault → List ℕ
run_lines StoreTooShort = refused (codes "12") (codes "the store is shorter than the identifier table")
run_lines BudgetTooLarge = refused (codes "13") (codes "the budget is above 1000000000")

abbrev pub refusal_lines : Refusal → List ℕ
refusal_lines (Load f) = load_lines f
refusal_lines (Run f) = run_lines f

-- what wrong arguments get
abbrev pub usage : List ℕ
usage = codes "usage: run_screen [--number] FILE BUDGET [VALUE ...]" ++ 10 ∷ []
