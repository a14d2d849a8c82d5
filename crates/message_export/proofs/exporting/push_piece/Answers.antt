use Rattle.message_export.proofs.Names.{◌++◌, ap, IfOk-equal, packet}
use Rattle.message_export.proofs.ReaderLaws.{fits_32}
use Rattle.message_export.proofs.exporting.push_piece.Goals as goal

pub push_packet-requires : goal.push_packet-requires
push_packet-requires c = rw c.requires.spelled (fits_32 c.args.message.now c.requires.fits)

pub returns-in-Pcap : goal.returns-in-Pcap
returns-in-Pcap c =
    rw c.in-Pcap.is (IfOk-equal _ _ _ _ c.push_packet.ensures (ap (λ bytes. c.args.out.now.items ++ packet c.args.time bytes) c.requires.spelled))
