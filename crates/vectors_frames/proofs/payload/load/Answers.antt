-- `load`: the bytes that fit are at the front of the room.
use Rattle.vectors_frames.proofs.Bytes.{loaded_by}
use Rattle.vectors_frames.proofs.payload.load.Goals as goal

pub returns : goal.returns
returns c = loaded_by c.args.room.now c.args.bytes.now _ c.min-n.result c.min-n.ensures c.copy_from_slice.ensures.after
