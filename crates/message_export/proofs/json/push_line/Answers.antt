use Rattle.message_export.proofs.Names.{IfOk-equal, codes, byte_members, context_members, event_members, number, signature_members, stamp_members}
use Rattle.message_export.proofs.ExportLemmas.{object_put}
use Rattle.message_export.proofs.json.push_line.Goals as goal

pub returns : goal.returns
returns c =
    let m = c.args.message.now in
    let whole = object_put c.args.out.now.items (number (codes "offset") c.args.offset) (event_members m) (byte_members m.version m.reserved)
    (stamp_members m.stamp) (context_members m.context) (signature_members m.signature) in
    IfOk-equal _ _ _ _ c.append.ensures (cc (
      whole,
      c.in_ok-push_numbered.ensures,
      c.in_ok-push_event.ensures,
      c.in_ok-push_byte.ensures,
      c.in_ok-push_stamp.ensures,
      c.in_ok-push_context.ensures,
      c.in_ok-push_signature.ensures,
      c.version.ensures.value,
      c.reserved.ensures,
      c.stamp.ensures,
      c.context.ensures.value,
      c.signature.ensures.value,
    ))
