-- Why the files of a database aren't opened, and why a call of one fails.
use Rattle.std.specs.Prelude.{if◌then◌else◌}
use Rattle.std.specs.declared.io.Error.{Error}
use Rattle.std.specs.declared.io.ErrorKind.{ErrorKind}
use Rattle.std.specs.declared.io.ErrorKind.TheVariants.{IsADirectory, NotADirectory, NotFound, OutOfMemory}
use Rattle.std.specs.declared.io.ErrorKind.TheVariants.{PermissionDenied, QuotaExceeded, ReadOnlyFilesystem}
use Rattle.std.specs.declared.io.ErrorKind.TheVariants.{StorageFull, Unsupported}
use Rattle.std.specs.IoError.{error_kind}
use Rattle.sqlite_disk.specs.Refusal.{is_no_room}
use Rattle.sqlite_std_file.specs.declared.pair.OpenError.{OpenError}
use Rattle.sqlite_std_file.specs.declared.pair.OpenError.TheVariants as opening
use Rattle.xa_disk.specs.declared.backing.DeviceFault.{DeviceFault}
use Rattle.xa_disk.specs.declared.backing.DeviceFault.TheVariants as device
use Rattle.xa_disk.specs.declared.host.FileFault.{FileFault}
use Rattle.xa_disk.specs.declared.host.FileFault.TheVariants as file
use Rattle.xa_disk.specs.declared.write_through.DiskOpenFault.{DiskOpenFault}
use Rattle.xa_disk.specs.declared.write_through.DiskOpenFault.TheVariants as disk

-- a call of a file failed so
abbrev pub device_fault : Error → DeviceFault
device_fault error = if is_no_room error then device.NoRoom else device.Failed

-- a call of the system failed so as the files were opened
abbrev pub kind_fault : ErrorKind → FileFault
kind_fault NotFound = file.NoFolder
kind_fault NotADirectory = file.NoFolder
kind_fault PermissionDenied = file.NoPermission
kind_fault ReadOnlyFilesystem = file.NoPermission
kind_fault StorageFull = file.NoRoom
kind_fault QuotaExceeded = file.NoRoom
kind_fault IsADirectory = file.NotAFile
kind_fault Unsupported = file.NotAFile
kind_fault OutOfMemory = file.Memory
kind_fault _ = file.Failed

-- the files weren't opened
abbrev pub of_opening : OpenError → FileFault
of_opening (opening.Io error) = kind_fault (error_kind error)
of_opening opening.OutOfMemory = file.Memory
of_opening opening.Busy = file.InUse
of_opening opening.HotJournal = file.HotJournal

-- there is no disk over one of them
abbrev pub of_disk : DiskOpenFault → FileFault
of_disk disk.Memory = file.Memory
of_disk disk.TooLarge = file.TooLarge
of_disk (disk.Failed device.NoRoom) = file.NoRoom
of_disk (disk.Failed device.Failed) = file.Failed
