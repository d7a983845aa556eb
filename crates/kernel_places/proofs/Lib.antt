mod Crosses
mod Apart
