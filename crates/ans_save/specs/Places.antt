-- Where a file goes, and whether it may.
use Rattle.std.specs.Prelude.{◌≡◌, ⊤, Bool, true, false, List, Option, Some, None, if◌then◌else◌, ◌&&◌, not}
use Rattle.std.specs.Prelude.{◌-◌, length, slice_index, ◌==◌}
use Rattle.std.specs.List.{list_any}
use Rattle.std.specs.Option.{option_map}
use Rattle.std.specs.Path.{slash}
use Rattle.ans_save.specs.Names.{Name, name_in}
use Rattle.ans_save.specs.declared.disk.Found.{Found}
use Rattle.ans_save.specs.declared.disk.Identity.{Identity}
use Rattle.ans_save.specs.declared.disk.Kind.{Kind}
use Rattle.ans_save.specs.declared.disk.Kind.TheVariants as kind
use Rattle.ans_save.specs.declared.save_error.Reason.TheVariants as reason
use Rattle.ans_save.specs.declared.save_error.SaveError.{SaveError}
use Rattle.ans_save.specs.declared.save_error.SaveError.TheVariants.{NoName, Unopened, IsInput, WrittenBefore, Memory}
use Rattle.ans_save.specs.declared.saving.Saving.{Saving}
use Rattle.ans_save.specs.declared.saving.Saving.TheVariants.{InPlace, File, Folder}

-- whether a name ends in a slash
abbrev pub ends_in_slash : Name → Bool
ends_in_slash name = slice_index name (length name - 1) == slash

-- a saving is into the folder of this name if it ends in a slash, and else to the file of this name
abbrev pub IsSavingTo : Name → Saving → Type 0
IsSavingTo output InPlace = ⊥
IsSavingTo output (File name) = (ends_in_slash output ≡ false) × (name.now ≡ output)
IsSavingTo output (Folder folder) = (ends_in_slash output ≡ true) × (folder.now ≡ output)

-- the name to write to; standard input, which has no name, has one only to a file
abbrev pub target_named : Saving → Option Name → Option Name
target_named InPlace input = input
target_named (File name) input = Some name.now
target_named (Folder folder) input = option_map (name_in folder.now) input

-- why there is no name to write to
abbrev pub IsUnnamed : Saving → Option Name → SaveError → Type 0
IsUnnamed saving input NoName = target_named saving input ≡ None
IsUnnamed saving input Memory = ⊤
IsUnnamed saving input other = ⊥

-- whether each file goes over its input, and so is flushed to the disk before it takes the input's name
abbrev pub is_in_place : Saving → Bool
is_in_place InPlace = true
is_in_place (File name) = false
is_in_place (Folder folder) = false

-- whether these are one file: on the same device, with the same number there
abbrev pub is_same : Identity → Identity → Bool
is_same one other = (one.device == other.device) && (one.inode == other.inode)

-- whether a file is among these
abbrev pub is_among : List Identity → Identity → Bool
is_among files file = list_any (is_same file) files

-- Why a file is not to be replaced: it was written in this run; or it is an input, unless files go over their inputs.
abbrev pub refusal_of_file : Bool → (inputs written : List Identity) → Identity → Option SaveError
refusal_of_file in_place inputs written file =
    if is_among written file then Some WrittenBefore
    else if not in_place && is_among inputs file then Some IsInput
    else None

-- the same of a thing of this kind, which is not replaced if it is no file
abbrev pub refusal_of_kind : Bool → (inputs written : List Identity) → Identity → Kind → Option SaveError
refusal_of_kind in_place inputs written file kind.File = refusal_of_file in_place inputs written file
refusal_of_kind in_place inputs written file kind.Folder = Some (Unopened reason.Folder)
refusal_of_kind in_place inputs written file kind.Special = Some (Unopened reason.Special)

-- why what is found under a target is not to be replaced
abbrev pub refusal_of : Bool → (inputs written : List Identity) → Found → Option SaveError
refusal_of in_place inputs written found = refusal_of_kind in_place inputs written found.identity found.kind
