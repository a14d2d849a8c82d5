use Rattle.message_export.proofs.Names.{◌∷◌, IfOk-equal, codes, comma, number}
use Rattle.message_export.proofs.ExportLemmas.{five_put}
use Rattle.message_export.proofs.json.push_event.Goals as goal

pub returns : goal.returns
returns c =
    let m = c.args.message.now in
    let whole = five_put c.args.out.now.items (comma ∷ number (codes "version") m.version) (comma ∷ number (codes "instance") m.instance)
    (comma ∷ number (codes "sensor") m.sensor) (comma ∷ number (codes "event") m.event) (comma ∷ number (codes "count") m.count) in
    IfOk-equal _ _ _ _ c.push_numbered-5.ensures (cc (whole, c.in_ok-push_numbered.ensures, c.in_ok-push_numbered-2.ensures, c.in_ok-push_numbered-3.ensures, c.in_ok-push_numbered-4.ensures))
