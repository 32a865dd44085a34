pub mod CodeNumbers
pub mod Xid
pub mod XidInverse
pub mod Tran
pub mod TranInverse
pub mod Key
pub mod NewXid
pub mod NewKey
pub mod NumberBytes
pub mod Delta
pub mod Flags
pub mod Orders
pub mod TranOrders
pub mod ManagerSet
pub mod Codes
pub mod Accounts
-- The words of this crate, by its name.
pub use Xid.{XidName, bytes_of, xid_cmp, xid_code, xid_eq}
pub use XidInverse.{IsPaddedXid, bytes_again, length_first, length_second}
pub use Tran.{TranName, tran_bytes, tran_code, tran_eq, tran_of}
pub use TranInverse.{IsPaddedTran, tran_bytes_again, tran_length}
pub use Key.{is_key, is_key_byte, key_eq, key_of, padded_key}
pub use NewXid.{is_part, new_tran, xid_of}
pub use NewKey.{IsPaddedKey, length_key, padded_again}
pub use NumberBytes.{IsOfItsNumber}
unfoldable pub use NumberBytes.{bytes_of_number}
pub use Delta.{IsDelta, delta_of, is_delta}
pub use Flags.{TMASYNC, TMENDRSCAN, TMFAIL, TMJOIN, TMMULTIPLE, TMNOWAIT, TMONEPHASE, TMRESUME, TMSTARTRSCAN, TMSUCCESS}
pub use Flags.{TMSUSPEND, bits_of, check_flags, go_together, has, has_only, how_of, just_one, mode_of, start_of}
pub use Orders.{Decides-key_eq, Decides-xid_eq, key_cmp-IsAntisymmetric, key_cmp_total, key_eq-by_cmp}
pub use Orders.{xid_cmp-IsAntisymmetric, xid_cmp_total, xid_eq-by_cmp}
pub use TranOrders.{Decides-tran_eq}
pub use ManagerSet.{is_in, managers_above, managers_of_set, set_of, with_manager}
pub use Codes.{is_done, is_integrity, is_read_only, is_rolled_back}
pub use Accounts.{are_accounts, are_apart}
pub use declared.code.Code.{Code}
pub use declared.code.Code.TheVariants.{Async, Done, DupId, HeurCom, HeurHaz, HeurMix, HeurRb, Inval, Nota, Outside}
pub use declared.code.Code.TheVariants.{Proto, RbCommFail, RbDeadlock, RbIntegrity, RbOther, RbProto, RbRollback}
pub use declared.code.Code.TheVariants.{RbTimeout, RbTransient, RdOnly, Retry, RmErr, RmFail}
pub use declared.death.Death.{Death}
pub use declared.flags.Call.{Call}
pub use declared.flags.Mode.{Mode}
pub use declared.request.Completion.{Completion}
pub use declared.request.EndHow.{EndHow}
pub use declared.request.EndHow.TheVariants.{Fail, Success, Suspend}
pub use declared.request.Op.{Op}
pub use declared.request.Op.TheVariants.{Add, CloseRm, Commit, End, Forget, Heur, Listed, OpenRm, Prepare, Rollback}
pub use declared.request.Op.TheVariants.{Shut, Start}
pub use declared.request.Request.{Request}
pub use declared.request.RmOp.{RmOp}
pub use declared.request.StartHow.{StartHow}
pub use declared.request.StartHow.TheVariants.{Fresh, Join, Resume}
pub use declared.xid.XidFault.{XidFault}
