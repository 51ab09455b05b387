mod Blocks
mod Turning
