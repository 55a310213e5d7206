-- Where a scripted session stands, as it is kept.
use Rattle.wire_core.specs.declared.links.Links.{Links}
use Rattle.script_wires.specs.declared.play.Play.{Play}
use Rattle.script_wires.specs.Clients.{client_seq, client_bytes}
use Rattle.script_wires.specs.Lines.{lines_left}
use Rattle.script_wires.specs.Playing.{Playing}

abbrev pub playing : Play → Links → Playing
playing p links = record {
  schedule = lines_left p.schedule;
  next_seq = client_seq p.client;
  client = client_bytes p.client;
  target = p.target;
  client_open = links.client.is_open;
  target_open = links.target.is_open;
}
