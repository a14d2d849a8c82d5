use Rattle.message_export.proofs.Names.{◌++◌, Some, IfOk-equal, append-nil, continued, signature_members}
use Rattle.message_export.proofs.json.push_signature.Goals as goal

pub returns-in-Some : goal.returns-in-Some
returns-in-Some c =
    let whole = c.args.out.now.items ++ continued (signature_members (Some c.in-Some.bytes.now)) in
    rw c.in-Some.is (IfOk-equal _ _ _ whole c.push_digits.ensures (simp append-nil))
