-- Why a file was not written, by the system's errors, and in words.
use Rattle.std.specs.Prelude.{ℕ, List, codes, Option, Some, None}
use Rattle.std.specs.declared.io.ErrorKind.{ErrorKind}
use Rattle.std.specs.declared.io.ErrorKind.TheVariants as kind
use Rattle.ans_save.specs.declared.save_error.Reason.{Reason}
use Rattle.ans_save.specs.declared.save_error.Reason.TheVariants as reason
use Rattle.ans_save.specs.declared.save_error.SaveError.{SaveError}
use Rattle.ans_save.specs.declared.save_error.SaveError.TheVariants as error

-- the reason, by the kind of the system's error
abbrev pub reason_of : ErrorKind → Reason
reason_of kind.NotFound = reason.Missing
reason_of kind.PermissionDenied = reason.Denied
reason_of kind.IsADirectory = reason.Folder
reason_of kind.NotADirectory = reason.NoFolder
reason_of kind.StorageFull = reason.Full
reason_of kind.QuotaExceeded = reason.Full
reason_of kind.ReadOnlyFilesystem = reason.ReadOnly
reason_of kind.AlreadyExists = reason.NoFolder
reason_of _ = reason.Other

-- why nothing is written if a look fails
abbrev pub unopened_of : ErrorKind → SaveError
unopened_of kind.OutOfMemory = error.Memory
unopened_of other = error.Unopened (reason_of other)

-- why nothing is written if a file may not be opened for writing
abbrev pub unwritable_of : ErrorKind → SaveError
unwritable_of kind.PermissionDenied = error.NotWritable
unwritable_of other = unopened_of other

-- why a file is not replaced if a deed fails
abbrev pub unwritten_of : ErrorKind → SaveError
unwritten_of kind.OutOfMemory = error.Memory
unwritten_of other = error.Unwritten (reason_of other)

-- the system's reason, if there is one
abbrev pub reason_in : SaveError → Option Reason
reason_in (error.Unopened why) = Some why
reason_in (error.Unwritten why) = Some why
reason_in other = None

-- the reason in words
abbrev pub reason_text : Reason → List ℕ
reason_text reason.Missing = codes "no such file or folder"
reason_text reason.Denied = codes "permission denied"
reason_text reason.Folder = codes "is a folder"
reason_text reason.NoFolder = codes "not a folder"
reason_text reason.Special = codes "not a regular file"
reason_text reason.Full = codes "no room left"
reason_text reason.ReadOnly = codes "read-only file system"
reason_text reason.Taken = codes "no free name for a new file beside it"
reason_text reason.Other = codes "the system refuses it"

-- what is said after a file's name, before the reason if there is one
abbrev pub error_text : SaveError → List ℕ
error_text error.NoName = codes "standard input has no name"
error_text (error.Unopened why) = codes "cannot open the file"
error_text error.IsInput = codes "is an input"
error_text error.WrittenBefore = codes "has been written before"
error_text error.NotWritable = codes "no write permission"
error_text (error.Unwritten why) = codes "cannot write the file"
error_text error.Memory = codes "not enough memory"
