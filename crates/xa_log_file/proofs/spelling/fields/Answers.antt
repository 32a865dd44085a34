use Rattle.xa_base.proofs.{arith, ◌≡◌, ◌≤◌, length, w32, to_z-of_z, cast_unsigned, to_be_bytes}
use Rattle.xa_log_file.proofs.Tables.{part_few, put_together}
use Rattle.xa_log_file.proofs.spelling.fields.Goals as goal

pub returns : goal.returns
returns c =
    let format : c.to_be_bytes.result ≡ to_be_bytes w32 (cast_unsigned w32 c.args.decision.now.tran.format) =
    search (arith, to_z-of_z, c.format.result) in
    let few : length c.args.decision.now.tran.gtrid ≤ 64 = search (arith, part_few, c.gtrid-gtrid.result.now) in
    rw (
      c.copy_from_slice.ensures.after,
      format,
      c.copy_from_slice-2.ensures.after,
      c.copy_from_slice-3.ensures.after,
      c.split_at_mut-yes.ensures.front,
      c.copy_from_slice-4.ensures.after,
      c.yes_bytes.ensures,
      c.split_at_mut-name.ensures.back,
      c.split_at_mut-len.ensures.back,
      c.split_at_mut-format.ensures.back,
      c.gtrid-gtrid.ensures.gtrid,
    ) (put_together c.args.decision.now few)
