use Rattle.message_export.proofs.Names.{◌++◌, Some, IfOk-equal, continued, stamp_members, append_assoc, append-nil}
use Rattle.message_export.proofs.json.push_stamp.Goals as goal

pub returns-in_ok-push_numbered-in-Some : goal.returns-in_ok-push_numbered-in-Some
returns-in_ok-push_numbered-in-Some c =
    let whole = c.args.out.now.items ++ continued (stamp_members (Some c.in-Some.stamp)) in
    rw c.in-Some.is (IfOk-equal _ _ _ whole c.push_numbered-in-Some.ensures (simp (
      c.in_ok-push_numbered-in-Some.ensures,
      c.in_ok-push_digits-in-Some.ensures,
      c.to_be_bytes.ensures,
      c.from.ensures,
      c.seconds.ensures,
      c.from-in-Some.ensures,
      c.nanoseconds.ensures,
      append_assoc,
      append-nil,
    )))

pub returns-in-None : goal.returns-in-None
returns-in-None c = rw c.in-None.is c.append.ensures
