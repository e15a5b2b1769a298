-- What is handed over, as the functions of the code pass it on. Assumes nothing.
use Rattle.offsets.specs.Ahead.{offset_of}
use Rattle.updating.specs.declared.Call.{Call}
use Rattle.updating.specs.Sent.{Sent, sent}

abbrev pub sent_by : Call → Sent
sent_by call = sent call.mode (offset_of call.offset.ahead) call.hgv.now call.hgc.now
