-- The number, the layer and the place of each fault. Assumes nothing.
use Rattle.std.specs.Prelude.{ℕ, List, codes}
use Rattle.format.specs.declared.fault.Layer.{Layer}
use Rattle.format.specs.declared.fault.Layer.TheVariants as Layers
use Rattle.format.specs.declared.fault.FileFault.{FileFault}
use Rattle.format.specs.declared.fault.FileFault.TheVariants.{Length, Pairs, Reading, Limit}
use Rattle.format.specs.declared.fault.CheckFault.{CheckFault}
use Rattle.format.specs.declared.fault.CheckFault.TheVariants.{Numbers, Shapes, Targets, Scopes}
use Rattle.format.specs.declared.fault.LoadFault.{LoadFault}
use Rattle.format.specs.declared.fault.LoadFault.TheVariants.{File, Check}
use Rattle.format.specs.declared.fault.CallFault.{CallFault}
use Rattle.format.specs.declared.fault.CallFault.TheVariants.{Load, BufferTooSmall}

abbrev pub layer_name : Layer → List ℕ
layer_name Layers.File = codes "file"
layer_name Layers.Check = codes "check"
layer_name Layers.Walk = codes "walk"
layer_name Layers.Call = codes "call"

-- the length; the pairs; cases, options and flags, to each section's exact end; the limits
abbrev pub file_number : FileFault → ℕ
file_number Length = 1
file_number (Pairs w) = 2
file_number (Reading w) = 3
file_number (Limit w) = 4

-- the failing word
abbrev pub file_place : FileFault → ℕ
file_place Length = 0
file_place (Pairs w) = w
file_place (Reading w) = w
file_place (Limit w) = w

-- numbers within their tables and counters; written places and operands; targets; records and Scope blocks
abbrev pub check_number : CheckFault → ℕ
check_number (Numbers n) = 5
check_number (Shapes n) = 6
check_number (Targets n) = 7
check_number (Scopes n) = 8

-- the faulty statement in file order, or 0 for a fault in a table
abbrev pub check_place : CheckFault → ℕ
check_place (Numbers n) = n
check_place (Shapes n) = n
check_place (Targets n) = n
check_place (Scopes n) = n

abbrev pub load_number : LoadFault → ℕ
load_number (File f) = file_number f
load_number (Check f) = check_number f

abbrev pub load_layer : LoadFault → Layer
load_layer (File f) = Layers.File
load_layer (Check f) = Layers.Check

abbrev pub load_place : LoadFault → ℕ
load_place (File f) = file_place f
load_place (Check f) = check_place f

abbrev pub call_number : CallFault → ℕ
call_number (Load f) = load_number f
call_number BufferTooSmall = 14

abbrev pub call_layer : CallFault → Layer
call_layer (Load f) = load_layer f
call_layer BufferTooSmall = Layers.Call

abbrev pub call_place : CallFault → ℕ
call_place (Load f) = load_place f
call_place BufferTooSmall = 0

-- a fault of one layer, as the next layer names it
abbrev pub load_of_file : FileFault → LoadFault
load_of_file f = File f

abbrev pub load_of_check : CheckFault → LoadFault
load_of_check f = Check f

abbrev pub call_of_load : LoadFault → CallFault
call_of_load f = Load f
