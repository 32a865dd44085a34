-- A database that was just opened is fresh.
use Rattle.sqlite_disk.specs.declared.Disk.{Ghosts}
use Rattle.sqlite_store.specs.declared.store.FileStore.{FileStore}
use Rattle.sqlite_store.specs.FileStore.{IsReady, view}
use Rattle.xa_store_sqlite.specs.Files.{IsFresh}

pub fresh_from : {D : Type 0} {g : Ghosts D} (it : FileStore D g) → IsReady it → IsFresh (view it)
fresh_from it ready = record { is_open = ready.is_open; unwritten = λ _. ready.clean }
